-- A store in order is so in one way only, since its devices hold what they hold. Assumes nothing.
use Rattle.std.proofs.Common.{◌≡◌, ℕ, false, List, [], ◌∷◌, ◌≢◌, sym, subst}
use Rattle.std.proofs.Props.{props}
use Rattle.std.proofs.Math.Logic.{∥∥₁_elim, ∥∥₁_map}
use Rattle.std.specs.Coded.{×_prop, Unit-prop}
use Rattle.crash.specs.Pair.{is_dark}
use Rattle.ringlaws.specs.Layout.{Contents}
use Rattle.ringlaws.specs.TxnInfo.{Transaction}
use Rattle.ringlaws.specs.Spells.{Whole, AllFair}
use Rattle.calls.specs.declared.call.Call.{Call}
use Rattle.calls.specs.declared.answer.Answer.{Answer}
use Rattle.calls.specs.declared.state.State.TheVariants.{Unmounted}
use Rattle.calls.specs.Plans.{Machine, Kind, places_of, blocks_of, words, sectors, ring, table_of}
use Rattle.calllaws.specs.Holds.{Ready, Holds}
use Rattle.order.specs.Order.{FairSettings, InOrder}
use Rattle.order.proofs.Own.{present_words, present_sectors}
use Rattle.engine.specs.Called.{Called}

-- in order, with the contents that the devices hold now
record Now (m : Machine) : Type 0 where
  settings : FairSettings (blocks_of m) m.list
  mounted : is_dark m.devices ≡ false → (m.state ≢ Unmounted)
      → Ready (places_of m) (blocks_of m) (words m) (sectors m) m.devices × Holds (places_of m) (blocks_of m) (words m) (sectors m) (ring m) (table_of m)

Whole-prop : (us : List (List ℕ)) → IsProp (Whole us)
Whole-prop [] = Unit-prop
Whole-prop (u ∷ us) = ×_prop (Prim.hlevel props) (Whole-prop us)

AllFair-prop : (B : ℕ) (ts : List Transaction) → IsProp (AllFair B ts)
AllFair-prop B [] = Unit-prop
AllFair-prop B (t ∷ ts) = ×_prop (Prim.hlevel (props, Whole-prop)) (AllFair-prop B ts)

Now-prop : (m : Machine) → IsProp (Now m)
Now-prop m = Prim.hlevel (props, Whole-prop, AllFair-prop)

now : (m : Machine) → InOrder m → Now m
now m o = record {
  settings = o.settings;
  mounted = λ lit mounted.
      let k = o.mounted lit mounted in
      let w = present_words k.words m.devices.nvm k.ready.rests.nvm in
      let s = present_sectors k.sectors m.devices.disk k.ready.rests.disk in (
        subst (λ (c : Contents). Ready (places_of m) (blocks_of m) c (sectors m) m.devices) (sym w)
            (subst (λ (e : ℕ → List ℕ). Ready (places_of m) (blocks_of m) k.words e m.devices) (sym s) k.ready),
        subst (λ (c : Contents). Holds (places_of m) (blocks_of m) c (sectors m) (ring m) (table_of m)) (sym w)
            (subst (λ (e : ℕ → List ℕ). Holds (places_of m) (blocks_of m) k.words e (ring m) (table_of m)) (sym s) k.holds),
      );
}

-- what an engine keeps of its order is all of it
pub in_order : (m : Machine) → ∥ InOrder m ∥₁ → InOrder m
in_order m o =
    let n = ∥∥₁_elim o (Now-prop m) (now m) in
    record {
      settings = n.settings;
      mounted = λ lit mounted. let k = n.mounted lit mounted in record { words = words m; sectors = sectors m; ready = k.0; holds = k.1 };
    }

-- a call keeps it
pub kept : {R : Type 0} {kind : Kind R} {m n : Machine} {call : Call R} {a : Answer R} → Called kind m call a n → ∥ InOrder m ∥₁ → ∥ InOrder n ∥₁
kept c o = ∥∥₁_map o c.order
