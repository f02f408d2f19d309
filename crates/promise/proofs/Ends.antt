-- Beyond the sizes of the devices there is never anything to settle: no call and no restart changes that.
use Rattle.std.proofs.Common.{◌≡◌, ℕ, ◌*◌, ◌/◌, ◌<◌, ◌≤◌, Bool, true, false, cond, eqb, leb, List, Some, None, sym, refl, ap, ◌∙◌, subst, inl, inr, arith}
use Rattle.std.proofs.lemmas.Bool.{cond-false, cases_Bool, both_ways, eqb-true, le-leb}
use Rattle.refusal.specs.declared.reason.Refusal.TheVariants.{Dark, Beyond, Unsettled}
use Rattle.device.specs.Pieces.{Piece, settled, unsettled, present_value, is_unsettled, MaySettle, ComesBack}
use Rattle.device.specs.Devices.{Meaning, Rules, refusal_of, Performs}
use Rattle.device.specs.Words.{WordMark, NvmAct, Store, Flush, Fence, waiting, nvm_rules}
use Rattle.device.specs.Sectors.{DiskAct, Write, Sync, waits, disk_rules}
use Rattle.crash.specs.Runs.{done, then}
use Rattle.crash.specs.Acts.{PerformedOn, Begun}
use Rattle.crash.proofs.Steps.{settled_is}
use Rattle.crash.proofs.Follow.{performed_begun}
use Rattle.crash.proofs.Pairs.{runs_part, cuts_part}
use Rattle.calls.specs.declared.call.Call.{Call}
use Rattle.calls.specs.declared.answer.Answer.{Answer}
use Rattle.calls.specs.Plans.{Machine, Kind, plan_of}
use Rattle.calls.specs.Steps.{Step, was_dark, went, went_dark, MachineRestarted}
use Rattle.order.specs.Order.{EndsThere}

may_quiet : {Mark Value : Type 0} (c d : Piece Mark Value) → MaySettle c d → is_unsettled c ≡ false → is_unsettled d ≡ false
may_quiet c d (inl e) h = ap is_unsettled e ∙ h
may_quiet c d (inr e) h = ap is_unsettled e

back_quiet : {Mark Value : Type 0} (c d : Piece Mark Value) → ComesBack c d → is_unsettled d ≡ false
back_quiet c d (inl e) = ap is_unsettled e
back_quiet c d (inr e) = ap is_unsettled e

-- a device of these rules, where no act within a size unsettles a piece from an edge on
module _ {Act Mark Value : Type 0} (rules : Rules Act Mark Value) (edge : ℕ → ℕ)
    (outside : (u : ℕ) (a : Act) (i : ℕ) (v : Value) → rules.beyond u a ≡ false → edge u ≤ i → is_unsettled (rules.makes a i (settled v)) ≡ false) where
  abbrev Quiet : Meaning Mark Value → Type 0
  Quiet m = (i : ℕ) → edge m.size ≤ i → is_unsettled (m.piece i) ≡ false

  within : (m : Meaning Mark Value) (a : Act) → refusal_of rules m a ≡ None → rules.beyond m.size a ≡ false
  within m a h = go m.dark (rules.beyond m.size a) (rules.blocked m.piece a) refl h
    where
      go : (x y z : Bool) → rules.beyond m.size a ≡ y → cond x (Some Dark) (cond y (Some Beyond) (cond z (Some Unsettled) None)) ≡ None → rules.beyond m.size a ≡ false
      go true y z e h = let o : ◌≡◌ {A = ℕ} 0 1 = cc in absurd (omega arith)
      go false true z e h = let o : ◌≡◌ {A = ℕ} 0 1 = cc in absurd (omega arith)
      go false false z e h = e

  act_quiet : (m n : Meaning Mark Value) (a : Act) → Performs rules m a n → Quiet m → Quiet n
  act_quiet m n a p q i le =
      let at : edge m.size ≤ i = subst (λ (u : ℕ). edge u ≤ i) p.size le in
      may_quiet (rules.makes a i (m.piece i)) (n.piece i) (p.pieces i)
      (subst (λ (c : Piece Mark Value). is_unsettled (rules.makes a i c) ≡ false) (sym (settled_is (m.piece i) (q i at)))
      (outside m.size a i (present_value (m.piece i)) (within m a p.allowed) at))

  run_quiet : (acts : List Act) (m n : Meaning Mark Value) → PerformedOn rules m acts n → Quiet m → Quiet n
  run_quiet acts m n done q = q
  run_quiet acts m n (then {p = k} {a} {more} s r) q = run_quiet more k n r (act_quiet m k a s q)

  begun_quiet : (acts : List Act) (m n : Meaning Mark Value) → Begun rules m acts n → Quiet m → Quiet n
  begun_quiet acts m n b q i le =
      ap is_unsettled (b.pieces i) ∙ run_quiet b.front m b.middle b.ran q i (subst (λ (u : ℕ). edge u ≤ i) b.size le)

apart : (a b : ℕ) → b < a → eqb a b ≡ false
apart a b lt = elim (cases_Bool (eqb a b)) [ inl e ↦ let h = eqb-true a b e in absurd (omega arith) | inr e ↦ e ]

inside : (a b : ℕ) → leb a b ≡ false → b < a
inside a b h = by (leb a b) h (λ le. le-leb a b le)
  where
    by : (x : Bool) → x ≡ false → (a ≤ b → x ≡ true) → b < a
    by true e k = absurd (both_ways true e refl)
    by false e k = let not : a ≤ b → ⊥ = λ le. both_ways false refl (k le) in omega arith

either_way : (t : Bool) (v : ℕ) → is_unsettled {Mark = WordMark} (cond t (settled v) (settled v)) ≡ false
either_way true v = refl
either_way false v = refl

nvm_outside : (u : ℕ) (a : NvmAct) (i v : ℕ) → nvm_rules.beyond u a ≡ false → 32 * u ≤ i → is_unsettled (nvm_rules.makes a i (settled v)) ≡ false
nvm_outside u (Store x y) i v h le =
    let lt : x < 32 * u = inside (32 * u) x h in
    let far : x < i = omega arith in
    ap is_unsettled (cond-false (eqb i x) (unsettled waiting v y) (settled v) (apart i x far))
nvm_outside u (Flush l) i v h le = either_way (eqb (i / 8) l) v
nvm_outside u Fence i v h le = refl

disk_outside : (u : ℕ) (a : DiskAct) (i : ℕ) (v : List ℕ) → disk_rules.beyond u a ≡ false → 8 * u ≤ i → is_unsettled (disk_rules.makes a i (settled v)) ≡ false
disk_outside u (Write b ws) i v h le =
    let lt : b < u = inside u b h in
    let far : b < i / 8 = omega arith in
    ap is_unsettled (cond-false (eqb (i / 8) b) (unsettled waits v _) (settled v) (apart (i / 8) b far))
disk_outside u Sync i v h le = refl

-- so it is of both devices
begun_ends : (xs : List NvmAct) (ys : List DiskAct) (m n : Machine)
    → Begun nvm_rules m.devices.nvm xs n.devices.nvm → Begun disk_rules m.devices.disk ys n.devices.disk → EndsThere m → EndsThere n
begun_ends xs ys m n b c e = record {
  nvm = begun_quiet nvm_rules (λ u. 32 * u) nvm_outside xs m.devices.nvm n.devices.nvm b e.nvm;
  disk = begun_quiet disk_rules (λ u. 8 * u) disk_outside ys m.devices.disk n.devices.disk c e.disk;
}

pub calls_keep_ends : {R : Type 0} (kind : Kind R) (m n : Machine) (call : Call R) (a : Answer R) → EndsThere m → Step kind m call a n → EndsThere n
calls_keep_ends kind m n call a e (was_dark w) = subst EndsThere (sym w.same) e
calls_keep_ends kind m n call a e (went w) =
    let (words, sectors) = runs_part (plan_of kind m call).acts m.devices n.devices w.acts in
    begun_ends _ _ m n (performed_begun nvm_rules words) (performed_begun disk_rules sectors) e
calls_keep_ends kind m n call a e (went_dark w) =
    let (dark, words, sectors) = cuts_part (plan_of kind m call).acts m.devices n.devices w.acts in
    begun_ends _ _ m n words sectors e

pub restarts_keep_ends : (m n : Machine) → MachineRestarted m n → EndsThere n
restarts_keep_ends m n r = record {
  nvm = λ w le. back_quiet (m.devices.nvm.piece w) (n.devices.nvm.piece w) (r.devices.nvm.pieces w);
  disk = λ s le. back_quiet (m.devices.disk.piece s) (n.devices.disk.piece s) (r.devices.disk.pieces s);
}
