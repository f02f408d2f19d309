-- Steps of a mount, on devices with whatever contents. Assumes nothing.
use Rattle.std.proofs.Common.{◌≡◌, ℕ, ◌+◌, ◌-◌, ◌≤◌, true, false, ◌&&◌, ltb, leb, List, IsErrAnd, IfOk, Some, None, Ok, Err, Option, Result, sym, refl, ap, ◌∙◌, subst, arith}
use Rattle.std.proofs.lemmas.Bool.{cond-true, cond-false, and_from, or_from, le-leb, lt-ltb}
use Rattle.refusal.specs.declared.reason.Refusal.{Refusal}
use Rattle.refusal.specs.declared.reason.Refusal.TheVariants.{BadSize}
use Rattle.device.specs.Words.{NvmMeaning, words_of, nvm_rules}
use Rattle.device.specs.Sectors.{DiskMeaning, sectors_of, disk_rules}
use Rattle.crash.specs.Runs.{done}
use Rattle.crash.specs.Pair.{both, PerformedPair, HaltedPair, RanPair, PairRests, PairAccepts, settling_both}
use Rattle.crash.proofs.Runs.{stopped_first}
use Rattle.crash.proofs.Follow.{run_power}
use Rattle.crash.proofs.Pairs.{runs_part}
use Rattle.ringlaws.specs.Layout.{Contents, head_of, tail_of, most_places}
use Rattle.ringlaws.specs.TxnInfo.{Transaction}
use Rattle.ringlaws.specs.Spells.{SpellsBetween}
use Rattle.calls.specs.declared.state.State.TheVariants.{Unmounted, Idle}
use Rattle.calls.specs.declared.call.Call.TheVariants.{Mount}
use Rattle.calls.specs.declared.answer.Answer.TheVariants.{Refused, Blocks}
use Rattle.calls.specs.Table.{table}
use Rattle.calls.specs.Acts.{checkpoint_acts, named_blocks}
use Rattle.calls.specs.Plans.{Machine, Kind, Plan, ring, fit_sizes, mount_refusal, refusing, mount_by, plan_of}
use Rattle.calls.specs.Steps.{Step}
use Rattle.calllaws.specs.Holds.{Holds}
use Rattle.calllaws.specs.FormatLaw.{AnyContents}
use Rattle.calllaws.proofs.Stages.{performed_sizes, SameSizes}
use Rattle.calllaws.proofs.Settling.{settling_settles_both}
use Rattle.order.specs.Order.{EndsThere}
use Rattle.order.proofs.Own.{present_words, present_sectors}
use Rattle.order.proofs.Found.{size_is, any_contents, found}
use Rattle.order.proofs.Accepted.{mount_fine}
use Rattle.acting.specs.Ends.{RanOrCut}
use Rattle.acting.proofs.Running.{ran_or_cut, pair_at_last}
use Rattle.checkpointing.specs.Ready.{Ready}
use Rattle.calling.specs.Seen.{seen, blocks_answer, if_done}
use Rattle.calling.proofs.Stepping.{by_plan, cut_by_plan}

-- a refusal that is handed on is the same answer, and leaves the store unmounted
pub handed_on_lem : {R : Type 0} (kind : Kind R) (m : Machine) (n : NvmMeaning) (d : DiskMeaning) (list : Transaction) (e : Refusal) (r : Result ℕ Refusal) → IsErrAnd r (λ y. y ≡ e)
    → Step kind m Mount (Refused e) (seen n d Unmounted list) → Step kind m Mount (blocks_answer r) (seen n d (if_done r Idle Unmounted) list)
handed_on_lem kind m n d list e (Ok v) b s = absurd b
handed_on_lem kind m n d list e (Err y) b s = subst (λ (x : Refusal). Step kind m Mount (Refused x) (seen n d Unmounted list)) (sym b) s

-- a ring by other names of its numbers and contents
spells_by : (N M B C h g t s : ℕ) (c d : Contents) (ts : List Transaction) → N ≡ M → B ≡ C → c ≡ d → h ≡ g → t ≡ s → SpellsBetween M C d g s ts → SpellsBetween N B c h t ts
spells_by N M B C h g t s c d ts p q e x y k =
    subst (λ (i : ℕ). SpellsBetween i B c h t ts) (sym p)
    (subst (λ (i : ℕ). SpellsBetween M i c h t ts) (sym q)
    (subst (λ (w : Contents). SpellsBetween M C w h t ts) (sym e)
    (subst (λ (i : ℕ). SpellsBetween M C d i t ts) (sym x)
    (subst (λ (i : ℕ). SpellsBetween M C d g i ts) (sym y) k))))

module _ {R : Type 0} (kind : Kind R) (nvm : NvmMeaning) (disk : DiskMeaning) (list : Transaction) (lit : nvm.dark ≡ false) (also : disk.dark ≡ false) where
  abbrev m : Machine
  m = seen nvm disk Unmounted list

  abbrev refusal : Option Refusal
  refusal = mount_refusal (nvm.size - 1) disk.size (words_of nvm)

  -- a size is outside the limits
  pub unfit : fit_sizes nvm.size disk.size ≡ false → Step kind m Mount (Refused BadSize) m
  unfit h =
      by_plan kind m Mount (refusing m BadSize) (Refused BadSize) m (cond-false (fit_sizes nvm.size disk.size) (mount_by kind m refusal) (refusing m BadSize) h)
      (record { before = or_from nvm.dark disk.dark lit also; says = refl; acts = done; state = refl; list = refl })

  module _ (ends : EndsThere m) (fit : fit_sizes nvm.size disk.size ≡ true) where
    plan_is : (o : Option Refusal) → refusal ≡ o → plan_of kind m Mount ≡ mount_by kind m o
    plan_is o e = cond-true (fit_sizes nvm.size disk.size) (mount_by kind m refusal) (refusing m BadSize) fit ∙ ap (mount_by kind m) e

    accepts : (o : Option Refusal) → refusal ≡ o → PairAccepts (both nvm disk) (mount_by kind m o).acts
    accepts o e = subst (λ (p : Plan R). PairAccepts (both nvm disk) p.acts) (plan_is o e) (mount_fine kind m ends)

    -- power failed at one of the acts
    stopped : (o : Option Refusal) → refusal ≡ o → (e : Refusal) (n : NvmMeaning) (d : DiskMeaning) → HaltedPair (both nvm disk) (mount_by kind m o).acts e (both n d)
        → Step kind m Mount (Refused e) (seen n d Unmounted list)
    stopped o is e n d h =
        let p = ran_or_cut {V = ℕ} (mount_by kind m o).acts (both nvm disk) (both n d) (Err e) (accepts o is) h in
        cut_by_plan kind m Mount (mount_by kind m o) (Refused e) (seen n d Unmounted list) (plan_is o is)
        (record { before = or_from nvm.dark disk.dark lit also; says = ap Refused p.0; acts = p.1; state = refl; list = refl })

    pub settling_stopped : (e : Refusal) (n : NvmMeaning) (d : DiskMeaning) → HaltedPair (both nvm disk) (settling_both nvm.size) e (both n d)
        → Step kind m Mount (Refused e) (seen n d Unmounted list)
    settling_stopped e n d h = go refusal refl
      where
        go : (o : Option Refusal) → refusal ≡ o → Step kind m Mount (Refused e) (seen n d Unmounted list)
        go None is = stopped None is e n d (stopped_first _ h)
        go (Some x) is = stopped (Some x) is e n d h

    -- everything is settled
    module _ (nvm' : NvmMeaning) (disk' : DiskMeaning) (settled : PerformedPair (both nvm disk) (settling_both nvm.size) (both nvm' disk')) where
      any : AnyContents (nvm.size - 1) disk.size (both nvm disk)
      any = any_contents m ends fit

      rests : PairRests (words_of nvm) (sectors_of disk) (both nvm' disk')
      rests =
          (settling_settles_both (nvm.size - 1) disk.size (both nvm disk) any).1 (both nvm' disk')
          (subst (λ (u : ℕ). PerformedPair (both nvm disk) (settling_both u) (both nvm' disk')) (size_is nvm.size disk.size fit) settled)

      same_words : words_of nvm' ≡ words_of nvm
      same_words = present_words (words_of nvm) nvm' rests.nvm

      same_sectors : sectors_of disk' ≡ sectors_of disk
      same_sectors = present_sectors (sectors_of disk) disk' rests.disk

      same_sizes : SameSizes (both nvm disk) (both nvm' disk')
      same_sizes = performed_sizes settled

      pub still_lit : nvm'.dark ≡ false
      still_lit = run_power nvm_rules (runs_part (settling_both nvm.size) (both nvm disk) (both nvm' disk') settled).0 ∙ lit

      disk_lit_lem : disk'.dark ≡ false
      disk_lit_lem = run_power disk_rules (runs_part (settling_both nvm.size) (both nvm disk) (both nvm' disk') settled).1 ∙ also

      pub has_places : (u : ℕ) → u ≡ nvm.size → nvm'.size ≡ (u - 1) + 1
      has_places u e = let a = any.units in let b = same_sizes.units in omega arith

      pub few_places : (u : ℕ) → u ≡ nvm.size → u - 1 ≤ most_places
      few_places u e = let a = any.most in omega arith

      refusal_then : (N B : ℕ) → N ≡ nvm.size - 1 → B ≡ disk.size → (o : Option Refusal) → mount_refusal N B (words_of nvm') ≡ o → refusal ≡ o
      refusal_then N B p q o h =
          sym (ap (λ (i : ℕ). mount_refusal i disk.size (words_of nvm)) p)
          ∙ sym (ap (λ (i : ℕ). mount_refusal N i (words_of nvm)) q)
          ∙ sym (ap (mount_refusal N B) same_words) ∙ h

      -- the contents are refused
      pub contents_refused : (N B : ℕ) → N ≡ nvm.size - 1 → B ≡ disk.size → (e : Refusal) → mount_refusal N B (words_of nvm') ≡ Some e
          → Step kind m Mount (Refused e) (seen nvm' disk' Unmounted list)
      contents_refused N B p q e h =
          by_plan kind m Mount (mount_by kind m (Some e)) (Refused e) (seen nvm' disk' Unmounted list) (plan_is (Some e) (refusal_then N B p q (Some e) h))
          (record { before = or_from nvm.dark disk.dark lit also; says = refl; acts = settled; state = refl; list = refl })

      -- or they hold a table
      module _ (N B h t : ℕ) (p : N ≡ nvm.size - 1) (q : B ≡ disk.size) (x : h ≡ head_of (words_of nvm')) (y : t ≡ tail_of (words_of nvm'))
          (fine : mount_refusal N B (words_of nvm') ≡ None) where
        holds : Holds (nvm.size - 1) disk.size (words_of nvm) (sectors_of disk) (ring m) (table (ring m) (sectors_of disk))
        holds = found (nvm.size - 1) disk.size (words_of nvm) (sectors_of disk) (refusal_then N B p q None fine)

        head_is : h ≡ head_of (words_of nvm)
        head_is = x ∙ ap head_of same_words

        tail_is : t ≡ tail_of (words_of nvm)
        tail_is = y ∙ ap tail_of same_words

        ready : Ready N B nvm' disk' h t (ring m)
        ready = record {
          fit = record {
            nvm_lit = still_lit;
            disk_lit = disk_lit_lem;
            units = let a = any.units in let b = same_sizes.units in omega arith;
            blocks = let b = same_sizes.blocks in omega arith;
            few = let b = any.few in omega arith;
            ring = and_from (leb N most_places) (ltb h N && ltb t N) (le-leb N most_places (let a = any.most in omega arith))
                (and_from (ltb h N) (ltb t N) (lt-ltb h N (let a = holds.head in omega (arith, a, head_is, p))) (lt-ltb t N (let a = holds.tail in omega (arith, a, tail_is, p))));
          };
          spells = spells_by N (nvm.size - 1) B disk.size h (head_of (words_of nvm)) t (tail_of (words_of nvm)) (words_of nvm') (words_of nvm) (ring m) p q same_words head_is tail_is holds.spells;
        }

        pub mounted : (n : NvmMeaning) (d : DiskMeaning) (r : Result ℕ Refusal)
            → ((ts : List Transaction) → Ready N B nvm' disk' h t ts → tail_of (words_of nvm') ≡ t → RanPair (both nvm' disk') (checkpoint_acts B (words_of nvm') ts (sectors_of disk')) r (both n d))
            → ((ts : List Transaction) → Ready N B nvm' disk' h t ts → IfOk r (λ k. k ≡ named_blocks B ts))
            → Step kind m Mount (blocks_answer r) (seen n d (if_done r Idle Unmounted) list)
        mounted n d r ran counted = go r (ran_or_cut (mount_by kind m None).acts (both nvm disk) (both n d) r (accepts None is) (pair_at_last (both n d) _ r settled acts)) count
          where
            is : refusal ≡ None
            is = refusal_then N B p q None fine

            acts : RanPair (both nvm' disk') (checkpoint_acts disk.size (words_of nvm) (ring m) (sectors_of disk)) r (both n d)
            acts =
                subst (λ (b : ℕ). RanPair (both nvm' disk') (checkpoint_acts b (words_of nvm) (ring m) (sectors_of disk)) r (both n d)) q
                (subst (λ (c : Contents). RanPair (both nvm' disk') (checkpoint_acts B c (ring m) (sectors_of disk)) r (both n d)) same_words
                (subst (λ (e : ℕ → List ℕ). RanPair (both nvm' disk') (checkpoint_acts B (words_of nvm') (ring m) e) r (both n d)) same_sectors (ran (ring m) ready (sym y))))

            count : IfOk r (λ k. k ≡ named_blocks disk.size (ring m))
            count = subst (λ (b : ℕ). IfOk r (λ k. k ≡ named_blocks b (ring m))) q (counted (ring m) ready)

            go : (r : Result ℕ Refusal) → RanOrCut (both nvm disk) (mount_by kind m None).acts r (both n d) → IfOk r (λ k. k ≡ named_blocks disk.size (ring m))
                → Step kind m Mount (blocks_answer r) (seen n d (if_done r Idle Unmounted) list)
            go (Ok k) performed e =
                by_plan kind m Mount (mount_by kind m None) (Blocks k) (seen n d Idle list) (plan_is None is)
                (record { before = or_from nvm.dark disk.dark lit also; says = ap Blocks e; acts = performed; state = refl; list = refl })
            go (Err e) (dark, cut) c =
                cut_by_plan kind m Mount (mount_by kind m None) (Refused e) (seen n d Unmounted list) (plan_is None is)
                (record { before = or_from nvm.dark disk.dark lit also; says = ap Refused dark; acts = cut; state = refl; list = refl })
