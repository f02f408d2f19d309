-- Stores, flushes of their lines and a fence; writes and a sync. Assumes nothing.
use Rattle.std.proofs.Common.{◌≡◌, ℕ, ◌/◌, Bool, true, false, cond, ◌||◌, eqb, List, [], ◌∷◌, ◌++◌, sym, refl, ap, ◌∙◌, inl, arith, eq-eqb, eqb-true}
use Rattle.std.proofs.lemmas.Bool.Decides.{nat_tests}
use Rattle.device.specs.Pieces.{Piece, settled, unsettled, settled_value, present_value}
use Rattle.device.specs.Devices.{Rules}
use Rattle.device.specs.Words.{waiting, flushed, Word, NvmAct, Store, Flush, Fence, flushed_word, fenced_word, nvm_rules}
use Rattle.device.specs.Sectors.{DiskAct, Write, Sync, disk_rules}
use Rattle.crash.specs.Acts.{made, Leads, Accepts}
use Rattle.crash.specs.Keeping.{Tame, nvm_keeps, disk_keeps, kept, Brings}
use Rattle.crash.specs.Rows.{nvm_touches, disk_touches, stores_word, flushes_line, Once, StoreWithin, FlushWithin, WriteWithin, Stores, Flushes, StoresAreAPhase, WritesAreAPhase, SealingIsAPhase}
use Rattle.crash.proofs.Runs.{each_append, each_turned}
use Rattle.crash.proofs.Follow.{made_append, accepts_append}
use Rattle.crash.proofs.Tame.{nvm_is_tame, disk_is_tame}
use Rattle.crash.proofs.Touching.{never, missed_kept, touches_bring, touches_accepted, nvm_touching, disk_touching}
use Rattle.crash.proofs.Rows.{store_one}

-- what the acts make of a piece has the value that they keep
pub made_kept : {Act Mark Value : Type 0} (rules : Rules Act Mark Value) (keeps : Act → ℕ → Value → Value) → Tame rules keeps → (acts : List Act) (i : ℕ) (c : Piece Mark Value)
    → present_value (made rules acts i c) ≡ kept keeps acts i (present_value c)
made_kept rules keeps tame [] i c = refl
made_kept rules keeps tame (a ∷ more) i c = made_kept rules keeps tame more i (rules.makes a i c) ∙ ap (kept keeps more i) (tame.present a i c)

-- what stores make of a word, what flushes do
pub stores_made : (u : ℕ) (acts : List NvmAct) → Stores u acts → (w : ℕ) (c : Word)
    → made nvm_rules acts w c ≡ cond (stores_word w acts) (unsettled waiting (settled_value c) (kept nvm_keeps acts w (present_value c))) c
stores_made u [] h w c = refl
stores_made u (Store x v ∷ more) ((lt, h), (once, o)) w c = by_test (eqb w x) (λ d. stores_made u more (h, o) w d)
  where
    again : (t : Bool) → stores_word w more ≡ t
        → cond t (unsettled waiting (settled_value c) (kept nvm_keeps more w v)) (unsettled waiting (settled_value c) v) ≡ unsettled waiting (settled_value c) (kept nvm_keeps more w v)
    again true e = refl
    again false e = ap (unsettled waiting (settled_value c)) (sym (missed_kept nvm_rules nvm_keeps nvm_touches nvm_is_tame nvm_touching more w v e))

    by_test : (t : Bool)
        → ((d : Word) → made nvm_rules more w d ≡ cond (stores_word w more) (unsettled waiting (settled_value d) (kept nvm_keeps more w (present_value d))) d)
        → made nvm_rules more w (cond t (unsettled waiting (settled_value c) v) c)
        ≡ cond (t || stores_word w more) (unsettled waiting (settled_value c) (kept nvm_keeps more w (cond t v (present_value c)))) c
    by_test true rest_of = rest_of (unsettled waiting (settled_value c) v) ∙ again (stores_word w more) refl
    by_test false rest_of = rest_of c
stores_made u (Flush l ∷ more) ((wrong, h), o) w c = absurd wrong
stores_made u (Fence ∷ more) ((wrong, h), o) w c = absurd wrong

flushed_twice : (t : Bool) (c : Word) → cond t (flushed_word (flushed_word c)) (flushed_word c) ≡ flushed_word c
flushed_twice true (settled v) = refl
flushed_twice true (unsettled k s p) = refl
flushed_twice false c = refl

pub flushes_made : (u : ℕ) (acts : List NvmAct) → Flushes u acts → (w : ℕ) (c : Word) → made nvm_rules acts w c ≡ cond (flushes_line (w / 8) acts) (flushed_word c) c
flushes_made u [] h w c = refl
flushes_made u (Store x v ∷ more) (wrong, h) w c = absurd wrong
flushes_made u (Flush l ∷ more) (lt, h) w c = by_test (eqb (w / 8) l) (λ d. flushes_made u more h w d)
  where
    by_test : (t : Bool) → ((d : Word) → made nvm_rules more w d ≡ cond (flushes_line (w / 8) more) (flushed_word d) d)
        → made nvm_rules more w (cond t (flushed_word c) c) ≡ cond (t || flushes_line (w / 8) more) (flushed_word c) c
    by_test true rest_of = rest_of (flushed_word c) ∙ flushed_twice (flushes_line (w / 8) more) c
    by_test false rest_of = rest_of c
flushes_made u (Fence ∷ more) (wrong, h) w c = absurd wrong

-- what holds of one list of acts holds of it by act
stores_within : (u : ℕ) (a : NvmAct) → StoreWithin u a → nvm_rules.beyond u a ≡ false
stores_within u (Store x v) lt = grind (arith, nat_tests)
stores_within u (Flush l) wrong = absurd wrong
stores_within u Fence wrong = absurd wrong

flushes_within : (u : ℕ) (a : NvmAct) → FlushWithin u a → nvm_rules.beyond u a ≡ false
flushes_within u (Store x v) wrong = absurd wrong
flushes_within u (Flush l) lt = grind (arith, nat_tests)
flushes_within u Fence wrong = absurd wrong

pub flushes_quiet : (u : ℕ) (a : NvmAct) → FlushWithin u a → (w p : ℕ) → nvm_keeps a w p ≡ p
flushes_quiet u (Store x v) wrong w p = absurd wrong
flushes_quiet u (Flush l) lt w p = refl
flushes_quiet u Fence wrong w p = absurd wrong

writes_within : (u : ℕ) (a : DiskAct) → WriteWithin u a → disk_rules.beyond u a ≡ false
writes_within u (Write b words) lt = grind (arith, nat_tests)
writes_within u Sync wrong = absurd wrong

once_flushes : (u : ℕ) (acts : List NvmAct) → Flushes u acts → Once nvm_touches acts × ((w : ℕ) → stores_word w acts ≡ false)
once_flushes u [] h = (tt, (λ w. refl))
once_flushes u (Store x v ∷ more) (wrong, h) = absurd wrong
once_flushes u (Flush l ∷ more) (lt, h) = let (o, none) = once_flushes u more h in (((λ w e. none w), o), none)
once_flushes u (Fence ∷ more) (wrong, h) = absurd wrong

pub flushes_accepted : (u : ℕ) (piece : ℕ → Word) (acts : List NvmAct) → Flushes u acts → Accepts nvm_rules u piece acts
flushes_accepted u piece acts h =
    let (o, none) = once_flushes u acts h in
    touches_accepted nvm_rules nvm_keeps nvm_touches nvm_is_tame nvm_touching u piece acts (each_turned _ _ (flushes_within u) acts h) o (λ w e. absurd (never (sym e ∙ none w)))

settled_flushed : (t : Bool) (v : ℕ) → fenced_word (cond t (flushed_word (settled v)) (settled v)) ≡ settled v
settled_flushed true v = refl
settled_flushed false v = refl

pub stores_are_a_phase : StoresAreAPhase
stores_are_a_phase u stores flushes c hs hf covers = record { leads = leads; accepted = accepted; brings = brings }
  where
    by_test : (w : ℕ) (t : Bool) → stores_word w stores ≡ t
        → fenced_word (made nvm_rules flushes w (cond t (unsettled waiting (c w) (kept nvm_keeps stores w (c w))) (settled (c w)))) ≡ settled (kept nvm_keeps stores w (c w))
    by_test w true e =
        let k = kept nvm_keeps stores w (c w) in
        ap fenced_word (flushes_made u flushes hf w (unsettled waiting (c w) k))
        ∙ ap (λ t. fenced_word (cond t (unsettled flushed (c w) k) (unsettled waiting (c w) k))) (covers w e)
    by_test w false e =
        ap fenced_word (flushes_made u flushes hf w (settled (c w)))
        ∙ settled_flushed (flushes_line (w / 8) flushes) (c w)
        ∙ ap settled (sym (missed_kept nvm_rules nvm_keeps nvm_touches nvm_is_tame nvm_touching stores w (c w) e))

    leads : Leads nvm_rules c (stores ++ (flushes ++ Fence ∷ [])) (λ w. kept nvm_keeps stores w (c w))
    leads w =
        made_append nvm_rules stores (flushes ++ Fence ∷ []) w (settled (c w))
        ∙ made_append nvm_rules flushes (Fence ∷ []) w _
        ∙ ap (λ x. fenced_word (made nvm_rules flushes w x)) (stores_made u stores hs w (settled (c w)))
        ∙ by_test w (stores_word w stores) refl

    accepted : Accepts nvm_rules u (λ w. settled (c w)) (stores ++ (flushes ++ Fence ∷ []))
    accepted =
        accepts_append nvm_rules stores (flushes ++ Fence ∷ []) u (λ w. settled (c w))
        (touches_accepted nvm_rules nvm_keeps nvm_touches nvm_is_tame nvm_touching u (λ w. settled (c w)) stores (each_turned _ _ (stores_within u) stores hs.0) hs.1 (λ w e. refl))
        (accepts_append nvm_rules flushes (Fence ∷ []) u _ (flushes_accepted u _ flushes hf) (refl, refl, tt))

    brings : Brings nvm_keeps (λ w. kept nvm_keeps stores w (c w)) (stores ++ (flushes ++ Fence ∷ []))
    brings =
        each_append _ stores (flushes ++ Fence ∷ [])
        (touches_bring nvm_rules nvm_keeps nvm_touches nvm_is_tame nvm_touching c stores hs.1)
        (each_append _ flushes (Fence ∷ []) (each_turned _ _ (λ a h w p. inl (flushes_quiet u a h w p)) flushes hf) ((λ w p. inl refl), tt))

pub sealing_is_a_phase : SealingIsAPhase
sealing_is_a_phase u t v c lt =
    stores_are_a_phase u (Store t v ∷ []) (Flush (t / 8) ∷ []) c (store_one u t v lt) (omega arith, tt) covers
  where
    covers : (w : ℕ) → eqb w t || false ≡ true → eqb (w / 8) (t / 8) || false ≡ true
    covers w e = by_test (eqb w t) refl e
      where
        by_test : (b : Bool) → eqb w t ≡ b → b || false ≡ true → eqb (w / 8) (t / 8) || false ≡ true
        by_test true i h = ap (λ b. b || false) (eq-eqb (w / 8) (t / 8) (ap (λ y. y / 8) (eqb-true w t i)))
        by_test false i h = absurd (never (sym h))

-- the disk
sectors_once : (acts : List DiskAct) → Once disk_touches acts → Once (λ a s. disk_touches a (s / 8)) acts
sectors_once [] h = tt
sectors_once (a ∷ more) (here, h) = ((λ s e. here (s / 8) e), sectors_once more h)

pub writes_are_a_phase : WritesAreAPhase
writes_are_a_phase u writes e (within, once) = record {
  leads = λ s. made_append disk_rules writes (Sync ∷ []) s (settled (e s)) ∙ ap settled (made_kept disk_rules disk_keeps disk_is_tame writes s (settled (e s)));
  accepted = accepts_append disk_rules writes (Sync ∷ []) u (λ s. settled (e s))
      (touches_accepted disk_rules disk_keeps (λ a s. disk_touches a (s / 8)) disk_is_tame disk_touching u (λ s. settled (e s)) writes
      (each_turned _ _ (writes_within u) writes within) (sectors_once writes once) (λ s i. refl))
      (refl, refl, tt);
  brings = each_append _ writes (Sync ∷ [])
      (touches_bring disk_rules disk_keeps (λ a s. disk_touches a (s / 8)) disk_is_tame disk_touching e writes (sectors_once writes once))
      ((λ s p. inl refl), tt);
}
