-- The unit of a record in a mounted store in order. Assumes nothing.
use Rattle.std.proofs.Common.{◌≡◌, ℕ, ◌-◌, ◌/◌, ◌<◌, ◌≤◌, false, cond, ltb, List, Some, None, Ok, Err, Option, Result, unwrap_or, sym, refl, ap, ◌∙◌, arith}
use Rattle.std.proofs.lemmas.Bool.{cond-true, cond-false, or_from, lt-ltb, le-ltb}
use Rattle.refusal.specs.declared.reason.Refusal.{Refusal}
use Rattle.refusal.specs.declared.reason.Refusal.TheVariants.{Dark, NoSuchRecord}
use Rattle.device.specs.Words.{NvmMeaning, words_of}
use Rattle.device.specs.Sectors.{DiskMeaning, sectors_of}
use Rattle.crash.specs.Pair.{is_dark}
use Rattle.ringlaws.specs.Layout.{records_of, home_block, head_of, tail_of}
use Rattle.ringlaws.specs.TxnInfo.{Transaction}
use Rattle.ringlaws.specs.Newest.{setting_of, lay}
use Rattle.calls.specs.declared.state.State.{State}
use Rattle.calls.specs.declared.state.State.TheVariants.{Unmounted}
use Rattle.calls.specs.Table.{table}
use Rattle.calls.specs.Plans.{Machine, ring, table_of}
use Rattle.order.specs.Order.{InOrder}
use Rattle.checkpointing.specs.Ready.{Ready}
use Rattle.calling.specs.Seen.{seen}
use Rattle.calling.specs.Reading.{unit_read}
use Rattle.calling.proofs.Mounted.{ready_at}

module _ (nvm : NvmMeaning) (disk : DiskMeaning) (state : State) (list : Transaction) (r : ℕ) (lit : nvm.dark ≡ false) (also : disk.dark ≡ false) where
  abbrev m : Machine
  m = seen nvm disk state list

  abbrev by_number : Result (List ℕ) Refusal
  by_number = cond (ltb r (records_of disk.size)) (Ok (lay list (table_of m) r)) (Err NoSuchRecord)

  lit_read : unit_read m r ≡ by_number
  lit_read = cond-false (is_dark m.devices) (Err Dark) by_number (or_from nvm.dark disk.dark lit also)

  -- the number is beyond the disk
  pub no_such : disk.size ≤ r / 16 → Err NoSuchRecord ≡ unit_read m r
  no_such le = sym (lit_read ∙ cond-false (ltb r (records_of disk.size)) (Ok (lay list (table_of m) r)) (Err NoSuchRecord) (le-ltb r (records_of disk.size) (omega (arith, le))))

  module _ (lt : r / 16 < disk.size) where
    laid_read : Ok (lay list (table_of m) r) ≡ unit_read m r
    laid_read = sym (lit_read ∙ cond-true (ltb r (records_of disk.size)) (Ok (lay list (table_of m) r)) (Err NoSuchRecord) (lt-ltb r (records_of disk.size) (omega (arith, lt))))

    -- the transaction sets it
    pub own_unit : (o : Option (List ℕ)) (u : List ℕ) → o ≡ Some u → o ≡ setting_of list r → Ok u ≡ unit_read m r
    own_unit o u is e = ap (λ (x : Option (List ℕ)). Ok (unwrap_or x (table_of m r))) (sym is ∙ e) ∙ laid_read

    -- or the table has it
    pub table_unit : (mounted : state ≡ Unmounted → ⊥) (order : InOrder m) (o : Option (List ℕ)) → o ≡ None → o ≡ setting_of list r
        → (N h t : ℕ) → N ≡ nvm.size - 1 → h ≡ head_of (words_of nvm) → t ≡ tail_of (words_of nvm) → (x : Result (List ℕ) Refusal)
        → ((B : ℕ) (ts : List Transaction) → Ready N B nvm disk h t ts → home_block r < B → x ≡ Ok (table ts (sectors_of disk) r))
        → x ≡ unit_read m r
    table_unit mounted order o is e N h t p q s x f =
        f disk.size (ring m) (ready_at nvm disk state list lit also mounted order N disk.size h t p refl q s) lt
        ∙ ap (λ (y : Option (List ℕ)). Ok (unwrap_or y (table_of m r))) (sym is ∙ e) ∙ laid_read
