-- Steps of a checkpoint on a mounted store in order. Assumes nothing.
use Rattle.std.proofs.Common.{◌≡◌, ℕ, ◌-◌, ◌≤◌, false, ◌&&◌, ltb, leb, List, IfOk, None, Ok, Err, Option, Result, sym, refl, ap, subst, arith}
use Rattle.std.proofs.lemmas.Bool.{and_from, or_from, le-leb, lt-ltb}
use Rattle.refusal.specs.declared.reason.Refusal.{Refusal}
use Rattle.device.specs.Words.{NvmMeaning, words_of}
use Rattle.device.specs.Sectors.{DiskMeaning, sectors_of}
use Rattle.crash.specs.Pair.{both, RanPair, PairAccepts}
use Rattle.ringlaws.specs.Layout.{head_of, tail_of, most_places}
use Rattle.ringlaws.specs.TxnInfo.{Transaction}
use Rattle.calls.specs.declared.state.State.{State}
use Rattle.calls.specs.declared.state.State.TheVariants.{Unmounted, Idle, Open}
use Rattle.calls.specs.declared.call.Call.TheVariants.{Checkpoint, Close}
use Rattle.calls.specs.declared.answer.Answer.TheVariants.{Refused, Done, Blocks}
use Rattle.calls.specs.Acts.{checkpoint_acts, named_blocks}
use Rattle.calls.specs.Judge.{judge}
use Rattle.calls.specs.Plans.{Machine, Kind, places_of, blocks_of, words, sectors, ring, table_of, checkpoint_plan, plan_by}
use Rattle.calls.specs.Steps.{Step}
use Rattle.calllaws.proofs.Checkpoints.{checkpoints_keep_the_table}
use Rattle.order.specs.Order.{InOrder}
use Rattle.order.proofs.Own.{Own, own}
use Rattle.acting.specs.Ends.{RanOrCut}
use Rattle.acting.proofs.Running.{ran_or_cut}
use Rattle.checkpointing.specs.Ready.{Ready}
use Rattle.calling.specs.Seen.{seen, done_answer, blocks_answer, if_done}
use Rattle.calling.proofs.Stepping.{by_plan, cut_by_plan}

-- a mounted store may be checkpointed
passes : {R : Type 0} (kind : Kind R) (s : State) → (s ≡ Unmounted → ⊥) → judge {R = R} s Checkpoint ≡ None
passes kind Unmounted f = absurd (f refl)
passes kind Idle f = refl
passes kind Open f = refl

pub idle_mounted : Idle ≡ Unmounted → ⊥
idle_mounted h = let z : ◌≡◌ {A = ℕ} 0 1 = cc in omega arith

module _ (nvm : NvmMeaning) (disk : DiskMeaning) (state : State) (list : Transaction) where
  abbrev m : Machine
  m = seen nvm disk state list

  module _ (lit : nvm.dark ≡ false) (also : disk.dark ≡ false) (mounted : state ≡ Unmounted → ⊥) (order : InOrder m) where
    o : Own (both nvm disk) (ring m) (table_of m)
    o = own (places_of m) (blocks_of m) (both nvm disk) (ring m) (table_of m) (order.mounted (or_from nvm.dark disk.dark lit also) mounted)

    -- there is a unit 0
    pub has_unit : 1 ≤ nvm.size
    has_unit = let h = o.ready.units in omega arith

    own_ready : Ready (nvm.size - 1) disk.size nvm disk (head_of (words_of nvm)) (tail_of (words_of nvm)) (ring m)
    own_ready = record {
      fit = record {
        nvm_lit = lit;
        disk_lit = also;
        units = let h = o.ready.units in omega arith;
        blocks = omega arith;
        few = o.ready.few;
        ring = and_from (leb (nvm.size - 1) most_places) (ltb (head_of (words_of nvm)) (nvm.size - 1) && ltb (tail_of (words_of nvm)) (nvm.size - 1)) (le-leb (nvm.size - 1) most_places o.ready.most)
            (and_from (ltb (head_of (words_of nvm)) (nvm.size - 1)) (ltb (tail_of (words_of nvm)) (nvm.size - 1)) (lt-ltb (head_of (words_of nvm)) (nvm.size - 1) o.holds.head) (lt-ltb (tail_of (words_of nvm)) (nvm.size - 1) o.holds.tail));
      };
      spells = o.holds.spells;
    }

    -- with the numbers that the devices answer
    pub ready_at : (N B h t : ℕ) → N ≡ nvm.size - 1 → B ≡ disk.size → h ≡ head_of (words_of nvm) → t ≡ tail_of (words_of nvm) → Ready N B nvm disk h t (ring m)
    ready_at N B h t p q x y =
        subst (λ (i : ℕ). Ready i B nvm disk h t (ring m)) (sym p)
        (subst (λ (i : ℕ). Ready (nvm.size - 1) i nvm disk h t (ring m)) (sym q)
        (subst (λ (i : ℕ). Ready (nvm.size - 1) disk.size nvm disk i t (ring m)) (sym x)
        (subst (λ (i : ℕ). Ready (nvm.size - 1) disk.size nvm disk (head_of (words_of nvm)) i (ring m)) (sym y) own_ready)))

    accepted : PairAccepts (both nvm disk) (checkpoint_acts disk.size (words_of nvm) (ring m) (sectors_of disk))
    accepted = (checkpoints_keep_the_table (places_of m) (blocks_of m) (words m) (sectors m) (ring m) (table_of m) (both nvm disk) o.ready o.holds).accepts

    module _ (N B h t : ℕ) (p : N ≡ nvm.size - 1) (q : B ≡ disk.size) (x : h ≡ head_of (words_of nvm)) (y : t ≡ tail_of (words_of nvm))
        (n : NvmMeaning) (d : DiskMeaning) (r : Result ℕ Refusal)
        (ran : (ts : List Transaction) → Ready N B nvm disk h t ts → tail_of (words_of nvm) ≡ t → RanPair (both nvm disk) (checkpoint_acts B (words_of nvm) ts (sectors_of disk)) r (both n d))
        (counted : (ts : List Transaction) → Ready N B nvm disk h t ts → IfOk r (λ k. k ≡ named_blocks B ts)) where
      pub ended : RanOrCut (both nvm disk) (checkpoint_acts disk.size (words_of nvm) (ring m) (sectors_of disk)) r (both n d)
      ended =
          ran_or_cut (checkpoint_acts disk.size (words_of nvm) (ring m) (sectors_of disk)) (both nvm disk) (both n d) r accepted
          (subst (λ (b : ℕ). RanPair (both nvm disk) (checkpoint_acts b (words_of nvm) (ring m) (sectors_of disk)) r (both n d)) q (ran (ring m) (ready_at N B h t p q x y) (sym y)))

      pub count : IfOk r (λ k. k ≡ named_blocks disk.size (ring m))
      count = subst (λ (b : ℕ). IfOk r (λ k. k ≡ named_blocks b (ring m))) q (counted (ring m) (ready_at N B h t p q x y))

-- a checkpoint by its plan
pub checkpoint_stepped : {R : Type 0} (kind : Kind R) (nvm : NvmMeaning) (disk : DiskMeaning) (state : State) (list : Transaction)
    → nvm.dark ≡ false → disk.dark ≡ false → (state ≡ Unmounted → ⊥) → (n : NvmMeaning) (d : DiskMeaning) (r : Result ℕ Refusal)
    → RanOrCut (both nvm disk) (checkpoint_acts disk.size (words_of nvm) (ring (seen nvm disk state list)) (sectors_of disk)) r (both n d)
    → IfOk r (λ k. k ≡ named_blocks disk.size (ring (seen nvm disk state list)))
    → Step kind (seen nvm disk state list) Checkpoint (blocks_answer r) (seen n d state list)
checkpoint_stepped {R} kind nvm disk state list lit also mounted n d (Ok k) ran counted =
    let m : Machine = seen nvm disk state list in
    by_plan kind m Checkpoint (checkpoint_plan kind m (Blocks (named_blocks (blocks_of m) (ring m))) state) (Blocks k) (seen n d state list)
    (ap (λ (v : Option Refusal). plan_by kind m v Checkpoint) (passes kind state mounted))
    (record { before = or_from nvm.dark disk.dark lit also; says = ap Blocks counted; acts = ran; state = refl; list = refl })
checkpoint_stepped {R} kind nvm disk state list lit also mounted n d (Err e) ran _ =
    let m : Machine = seen nvm disk state list in
    cut_by_plan kind m Checkpoint (checkpoint_plan kind m (Blocks (named_blocks (blocks_of m) (ring m))) state) (Refused e) (seen n d state list)
    (ap (λ (v : Option Refusal). plan_by kind m v Checkpoint) (passes kind state mounted))
    (record { before = or_from nvm.dark disk.dark lit also; says = ap Refused ran.0; acts = ran.1; state = refl; list = refl })

-- a close by its plan
pub close_stepped : {R : Type 0} (kind : Kind R) (nvm : NvmMeaning) (disk : DiskMeaning) (list : Transaction)
    → nvm.dark ≡ false → disk.dark ≡ false → (n : NvmMeaning) (d : DiskMeaning) (r : Result ℕ Refusal)
    → RanOrCut (both nvm disk) (checkpoint_acts disk.size (words_of nvm) (ring (seen nvm disk Idle list)) (sectors_of disk)) r (both n d)
    → Step kind (seen nvm disk Idle list) Close (done_answer r) (seen n d (if_done r Unmounted Idle) list)
close_stepped kind nvm disk list lit also n d (Ok k) ran =
    let m : Machine = seen nvm disk Idle list in
    by_plan kind m Close (checkpoint_plan kind m Done Unmounted) Done (seen n d Unmounted list) refl
    (record { before = or_from nvm.dark disk.dark lit also; says = refl; acts = ran; state = refl; list = refl })
close_stepped kind nvm disk list lit also n d (Err e) ran =
    let m : Machine = seen nvm disk Idle list in
    cut_by_plan kind m Close (checkpoint_plan kind m Done Unmounted) (Refused e) (seen n d Idle list) refl
    (record { before = or_from nvm.dark disk.dark lit also; says = ap Refused ran.0; acts = ran.1; state = refl; list = refl })
