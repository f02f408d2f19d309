-- A run that one last word puts in force is in force whole or not at all. Assumes nothing.
use Rattle.std.proofs.Common.{◌≡◌, ℕ, ◌+◌, Bool, true, cond, eqb, ◌⊎◌, List, [], ◌∷◌, ◌++◌, sym, refl, ap, ◌∙◌, subst, inl, inr, arith, eq-eqb, ne_eqb}
use Rattle.std.proofs.lemmas.Bool.{cases_eq}
use Rattle.device.specs.Pieces.{settled, settled_value, present_value, is_unsettled}
use Rattle.device.specs.Devices.{Meaning, Rules, Restarted}
use Rattle.device.specs.Words.{NvmMeaning, NvmAct, nvm_rules}
use Rattle.crash.specs.Acts.{PerformedOn, Begun, contents, Rests, Blend, Leads, Spares}
use Rattle.crash.specs.Keeping.{kept, nvm_keeps}
use Rattle.crash.specs.Rows.{sealing}
use Rattle.crash.specs.Crash.{SealingIsAtomic}
use Rattle.crash.proofs.Runs.{performed_split}
use Rattle.crash.proofs.Tame.{nvm_is_tame}
use Rattle.crash.proofs.Follow.{kept_append, run_spares, untouched_outlasts, phase_settles}
use Rattle.crash.proofs.Blends.{cut_phase_blends}
use Rattle.crash.proofs.Phases.{made_kept, sealing_is_a_phase}

split_front : {A : Type 0} (fs bs front back : List A) → fs ++ bs ≡ front ++ back
    → ((r : List A) × (fs ≡ front ++ r)) ⊎ ((r : List A) × (front ≡ fs ++ r) × (bs ≡ r ++ back))
split_front [] bs front back e = inr (front, refl, e)
split_front (a ∷ fs) bs [] back e = inl (a ∷ fs, refl)
split_front (a ∷ fs) bs (f ∷ front) back e =
    let h : a ≡ f = cc in
    let t : fs ++ bs ≡ front ++ back = cc in
    elim (split_front fs bs front back t) [
      | inl (r, p) ↦ inl (r, (let q : a ∷ fs ≡ f ∷ (front ++ r) = cc in q))
      | inr (r, p, q) ↦ inr (r, (let s : f ∷ front ≡ a ∷ (fs ++ r) = cc in s), q)
    ]

-- a run of two lists that has begun has begun the first, or has performed the first and begun the second
pub begun_split : {Act Mark Value : Type 0} {rules : Rules Act Mark Value} (fs bs : List Act) {m n : Meaning Mark Value} → Begun rules m (fs ++ bs) n
    → Begun rules m fs n ⊎ ((k : Meaning Mark Value) × PerformedOn rules m fs k × Begun rules k bs n)
begun_split {Act} {rules = rules} fs bs {m} {n} b = elim (split_front fs bs b.front b.back b.parts) [
  | inl (r, p) ↦ inl record { front = b.front; back = r; parts = p; middle = b.middle; ran = b.ran; size = b.size; pieces = b.pieces }
  | inr (r, p, q) ↦
      let (k, x, y) = performed_split fs r (subst (λ (t : List Act). PerformedOn rules m t b.middle) p b.ran) in
      inr (k, x, record { front = r; back = b.back; parts = q; middle = b.middle; ran = y; size = b.size; pieces = b.pieces })
]

module _ (c d : ℕ → ℕ) (acts : List NvmAct) (t v : ℕ) (S : ℕ → Bool) (m n p : NvmMeaning)
    (calm : Rests c m) (leads : Leads nvm_rules c acts d) (sp : Spares nvm_rules S acts) (st : S t ≡ true)
    (k : NvmMeaning) (ran : PerformedOn nvm_rules m acts k) (b : Begun nvm_rules k (sealing t v) n) (again : Restarted n p) where
  rests : Rests d k
  rests = phase_settles nvm_rules nvm_keeps nvm_is_tame c d acts m k calm leads ran

  -- a word of S is as it was
  spared : (w : ℕ) → S w ≡ true → d w ≡ c w
  spared w h = ap present_value (sym (rests w) ∙ run_spares nvm_rules S ran sp w (c w) h (calm w))

  back : Rests (contents p) p × Blend d (λ w. cond (eqb w t) v (d w)) (contents p)
  back =
      cut_phase_blends nvm_rules nvm_keeps nvm_is_tame d (λ w. cond (eqb w t) v (d w)) (sealing t v) k n p
      ((λ w. inl (ap settled_value (rests w))), (λ w. inl (ap present_value (rests w)))) (sealing_is_a_phase (t + 1) t v d (omega arith)).brings b again

  -- another word is as the acts left it
  other : (w : ℕ) → (w ≡ t → ⊥) → contents p w ≡ d w
  unfolding back
  other w ne = elim (back.1 w) [ inl e ↦ e | inr e ↦ e ∙ ap (λ x. cond x v (d w)) (ne_eqb w t ne) ]

  -- the word t is the old one or the new one
  this : (contents p t ≡ d t) ⊎ (contents p t ≡ v)
  this = elim (back.1 t) [ inl e ↦ inl e | inr e ↦ inr (e ∙ ap (λ x. cond x v (d t)) (eq-eqb t t refl)) ]

  -- what the whole run leaves in a word
  whole : (w : ℕ) → kept nvm_keeps (acts ++ sealing t v) w (c w) ≡ cond (eqb w t) v (d w)
  whole w =
      kept_append nvm_keeps acts (sealing t v) w (c w)
      ∙ ap (λ x. cond (eqb w t) v x) (sym (made_kept nvm_rules nvm_keeps nvm_is_tame acts w (settled (c w))) ∙ ap present_value (leads w))

  sealed : ((w : ℕ) → S w ≡ true → p.piece w ≡ settled (c w)) ⊎ ((w : ℕ) → p.piece w ≡ settled (kept nvm_keeps (acts ++ sealing t v) w (c w)))
  sealed = elim this [
    | inl e ↦ inl (λ w h. back.0 w ∙ elim (cases_eq w t) [ inl i ↦ ap (λ x. settled (contents p x)) i ∙ ap settled e ∙ ap (λ x. settled (d x)) (sym i) | inr ne ↦ ap settled (other w ne) ] ∙ ap settled (spared w h))
    | inr e ↦ inr (λ w. back.0 w ∙ elim (cases_eq w t) [
      | inl i ↦ ap (λ x. settled (contents p x)) i ∙ ap settled (e ∙ sym (whole w ∙ ap (λ x. cond x v (d w)) (eq-eqb w t i)))
      | inr ne ↦ ap settled (other w ne ∙ sym (whole w ∙ ap (λ x. cond x v (d w)) (ne_eqb w t ne)))
    ])
  ]

pub sealing_is_atomic : SealingIsAtomic
sealing_is_atomic c d acts t v S m n p calm leads sp st b again = elim (begun_split acts (sealing t v) b) [
  | inl first ↦ inl (λ w h. untouched_outlasts nvm_rules S acts m n p (λ i _. ap is_unsettled (calm i)) sp first again w h ∙ calm w)
  | inr (k, ran, second) ↦ sealed c d acts t v S m n p calm leads sp st k ran second again
]
