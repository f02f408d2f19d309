-- A commit of record 5 that is cut right after its tail is stored: the tail word is unsettled, so the devices may come back with
-- the old ring or with the new one. Assumes nothing.
use Rattle.std.proofs.Common.{◌≡◌, ℕ, zero, suc, ◌+◌, ◌%◌, ◌<◌, ◌≤◌, false, ◌⊎◌, List, [], ◌∷◌, ◌++◌, map, length, get_or, sym, refl, ap, ◌∙◌, subst, inl, inr, append_assoc, arith}
use Rattle.refusal.specs.declared.reason.Refusal.TheVariants.{Dark}
use Rattle.device.specs.Pieces.{settled, unsettled, settled_value, present_value}
use Rattle.device.specs.Devices.{Meaning, darkened}
use Rattle.device.specs.Words.{NvmAct, Word, waiting, Store, Flush, Fence, nvm_makes, nvm_rules}
use Rattle.crash.specs.Acts.{made}
use Rattle.crash.specs.Pair.{Pair, both, Act, on_nvm, CutPair, PairRestarted, PairAccepts}
use Rattle.crash.proofs.Follow.{made_append}
use Rattle.crash.proofs.Pairs.{nvm_append, nvm_own}
use Rattle.ringlaws.specs.Layout.{Contents, tail_of, head_word, tail_word, used_between}
use Rattle.ringlaws.specs.TxnInfo.{Transaction}
use Rattle.ringlaws.specs.Spells.{Whole, units_of}
use Rattle.ringlaws.specs.Newest.{lay}
use Rattle.ringlaws.specs.Appends.{tail_after}
use Rattle.calls.specs.declared.state.State.TheVariants.{Unmounted, Open}
use Rattle.calls.specs.declared.call.Call.TheVariants.{Commit}
use Rattle.calls.specs.declared.answer.Answer.TheVariants.{Refused}
use Rattle.calls.specs.Acts.{commit_acts}
use Rattle.calls.specs.Plans.{Kind, Plan}
use Rattle.calls.specs.Steps.{Step, went_dark, WentDark, MachineRestarted}
use Rattle.calllaws.specs.Holds.{Keeps}
use Rattle.calllaws.proofs.Commits.{units_whole}
use Rattle.calllaws.proofs.CommitPlaces.{low_out, filled_out}
use Rattle.calllaws.proofs.CommitPhases.{preparing, prepares}
use Rattle.order.proofs.Own.{own, own_places, own_blocks, own_words, places_is}
use Rattle.book.specs.Commits.{places_taken}
use Rattle.book.specs.Promise.{Lawful}
use Rattle.book.proofs.Went.{machine, used_is}
use Rattle.histories.proofs.Performing.{made_by, accepted_performs, front_accepted}
use Rattle.histories.proofs.Stands.{five, five_fair, Stands, here, by_size, commit_law, commit_is, stands_then}

-- power returns, with each piece at its settled value, or at its present one
abbrev at_settled : {Mark Value : Type 0} → Meaning Mark Value → Meaning Mark Value
at_settled m = record { size = m.size; dark = false; piece = λ i. settled (settled_value (m.piece i)) }

abbrev at_present : {Mark Value : Type 0} → Meaning Mark Value → Meaning Mark Value
at_present m = record { size = m.size; dark = false; piece = λ i. settled (present_value (m.piece i)) }

-- head and tail say how many places the kept transactions take
used_of : (p : Pair) (us : List Transaction) (x : ℕ → List ℕ) → Keeps 32 1 p us x → used_between 32 (own_words p head_word) (own_words p tail_word) ≡ places_taken us
used_of p us x h =
    subst (λ (n : ℕ). used_between n (own_words p head_word) (own_words p tail_word) ≡ places_taken us) (places_is 32 1 p us x h)
    (used_is (own_places p) (own_blocks p) (own_words p) us (own 32 1 p us x h).holds.spells)

two_units : (u v : List ℕ) → Whole (u ∷ v ∷ []) → (k : ℕ) → k < 2 → length (get_or (u ∷ v ∷ []) k []) ≡ 32
two_units u v h zero lt = h.0
two_units u v h (suc zero) lt = h.1.0
two_units u v h (suc (suc k)) lt = absurd (omega arith)

-- a tail that moved by two is not where it was
moved : (h t : ℕ) → h < 32 → t < 32 → used_between 32 h t ≡ 2 → used_between 32 h ((t + 2) % 32) ≡ 2 → ⊥
moved h t p q e f = omega arith

taken_one : (u : List ℕ) → places_taken (five u ∷ []) ≡ 2
unfolding places_taken
taken_one u = refl

taken_two : (u v : List ℕ) → places_taken (five u ∷ five v ∷ []) ≡ 4
unfolding places_taken
taken_two u v = refl

module _ {R : Type 0} (kind : Kind R) (lawful : Lawful kind) (d : Pair) (u : List ℕ) (units : ℕ → List ℕ) (s : Stands kind lawful d (five u ∷ []) units) (x : R) where
  abbrev ts : List Transaction
  ts = five u ∷ []

  abbrev t : Transaction
  t = five (kind.unit x)

  abbrev N : ℕ
  N = own_places d

  abbrev c : Contents
  c = own_words d

  places : N ≡ 32
  places = places_is 32 1 d ts units s.keeps

  few : places_taken ts ≤ 2
  few = let e = taken_one u in omega arith

  -- the acts up to the store of the tail, and the rest
  abbrev front : List Act
  front = map on_nvm (preparing N c t) ++ on_nvm (Store tail_word (tail_after N c t)) ∷ []

  abbrev rest : List Act
  rest = on_nvm (Flush 2) ∷ on_nvm Fence ∷ []

  parts : commit_acts N c t ≡ front ++ rest
  parts = sym (append_assoc (map on_nvm (preparing N c t)) (on_nvm (Store tail_word (tail_after N c t)) ∷ []) rest)

  abbrev middle : Pair
  middle = made_by front d

  -- what the front leaves of a word of unit 0
  left : (w : ℕ) → w < 32 → middle.nvm.piece w ≡ nvm_makes (Store tail_word (tail_after N c t)) w (settled (c w))
  left w lt =
      let tail = (here kind lawful d ts units s).holds.tail in
      let short : length (units_of t) < N = let e = places in omega arith in
      let long = two_units _ _ (units_whole 1 t (five_fair kind lawful x)) in
      ap (λ (acts : List NvmAct). made nvm_rules acts w (d.nvm.piece w))
      (nvm_append (map on_nvm (preparing N c t)) (on_nvm (Store tail_word (tail_after N c t)) ∷ []) ∙ ap (λ (acts : List NvmAct). acts ++ Store tail_word (tail_after N c t) ∷ []) (nvm_own (preparing N c t)))
      ∙ made_append nvm_rules (preparing N c t) (Store tail_word (tail_after N c t) ∷ []) w (d.nvm.piece w)
      ∙ ap (λ (q : Word). nvm_makes (Store tail_word (tail_after N c t)) w (made nvm_rules (preparing N c t) w q)) ((here kind lawful d ts units s).ready.rests.nvm w)
      ∙ ap (nvm_makes (Store tail_word (tail_after N c t)) w)
      (prepares N c t tail short long w ∙ ap settled (filled_out N (tail_of c) (units_of t) c w (low_out N (tail_of c) (length (units_of t)) w lt)))

  -- the store is dark, with an unsettled tail
  abbrev pub dark : Pair
  dark = both (darkened middle.nvm) middle.disk

  head_word_lem : dark.nvm.piece head_word ≡ settled (c head_word)
  head_word_lem = left head_word (omega arith)

  tail_word_lem : dark.nvm.piece tail_word ≡ unsettled waiting (c tail_word) (tail_after N c t)
  tail_word_lem = left tail_word (omega arith)

  cut : CutPair d (commit_acts N c t) dark
  cut = record {
    front = front;
    act = on_nvm (Flush 2);
    back = on_nvm Fence ∷ [];
    parts = parts;
    middle = middle;
    ran = accepted_performs front d s.lit (front_accepted front rest d (subst (PairAccepts d) parts (commit_law kind lawful d ts units s few x).accepts));
    stops = (refl, refl);
  }

  pub cuts : Step kind (machine d Open t) Commit (Refused Dark) (machine dark Open t)
  cuts = went_dark (subst (λ (plan : Plan R). WentDark plan (machine d Open t) (Refused Dark) (machine dark Open t)) (sym (commit_is kind lawful d ts units s few x))
      (record { before = s.lit; says = refl; acts = cut; state = refl; list = refl }))

  -- the two ways back
  abbrev pub old : Pair
  old = both (at_settled dark.nvm) (at_settled dark.disk)

  abbrev pub new : Pair
  new = both (at_present dark.nvm) (at_present dark.disk)

  old_back : PairRestarted dark old
  old_back = record { nvm = record { size = refl; power = refl; pieces = λ w. inl refl }; disk = record { size = refl; power = refl; pieces = λ i. inl refl } }

  new_back : PairRestarted dark new
  new_back = record { nvm = record { size = refl; power = refl; pieces = λ w. inr refl }; disk = record { size = refl; power = refl; pieces = λ i. inr refl } }

  pub old_returns : MachineRestarted (machine dark Open t) (machine old Unmounted [])
  old_returns = record { devices = old_back; state = refl; list = refl }

  pub new_returns : MachineRestarted (machine dark Open t) (machine new Unmounted [])
  new_returns = record { devices = new_back; state = refl; list = refl }

  used_before : used_between 32 (c head_word) (c tail_word) ≡ 2
  used_before = used_of d ts units s.keeps ∙ taken_one u

  -- at the settled values the tail is the old one
  old_keeps : Keeps N (own_blocks d) old ts units ⊎ Keeps N (own_blocks d) old (ts ++ t ∷ []) (lay t units) → Keeps 32 1 old ts units
  old_keeps (inl h) = by_size kind lawful d ts units s old ts units h
  old_keeps (inr h) =
      let e = used_of old (ts ++ t ∷ []) (lay t units) (by_size kind lawful d ts units s old (ts ++ t ∷ []) (lay t units) h) ∙ taken_two u (kind.unit x) in
      let same : used_between 32 (own_words old head_word) (own_words old tail_word) ≡ used_between 32 (c head_word) (c tail_word) =
      ap (λ (z : ℕ). used_between 32 z (own_words old tail_word)) (ap settled_value head_word_lem) ∙ ap (used_between 32 (c head_word)) (ap settled_value tail_word_lem) in
      let b = used_before in
      let z : ◌≡◌ {A = ℕ} 4 2 = sym e ∙ same ∙ b in
      absurd (omega arith)

  -- at the present values it is the new one
  new_keeps : Keeps N (own_blocks d) new ts units ⊎ Keeps N (own_blocks d) new (ts ++ t ∷ []) (lay t units) → Keeps 32 1 new (ts ++ t ∷ []) (lay t units)
  new_keeps (inl h) =
      let e = used_of new ts units (by_size kind lawful d ts units s new ts units h) ∙ taken_one u in
      let tail : own_words new tail_word ≡ (c tail_word + 2) % 32 = ap present_value tail_word_lem ∙ ap (λ (n : ℕ). (c tail_word + 2) % n) places in
      let same : used_between 32 (own_words new head_word) (own_words new tail_word) ≡ used_between 32 (c head_word) ((c tail_word + 2) % 32) =
      ap (λ (z : ℕ). used_between 32 z (own_words new tail_word)) (ap present_value head_word_lem) ∙ ap (used_between 32 (c head_word)) tail in
      let held = (here kind lawful d ts units s).holds in
      absurd (moved (c head_word) (c tail_word) (subst (λ (n : ℕ). c head_word < n) places held.head) (subst (λ (n : ℕ). c tail_word < n) places held.tail) used_before (sym same ∙ e))
  new_keeps (inr h) = by_size kind lawful d ts units s new (ts ++ t ∷ []) (lay t units) h

  pub old_stands : Stands kind lawful old ts units
  old_stands = record {
    lit = refl;
    keeps = old_keeps ((commit_law kind lawful d ts units s few x).cut dark old cut old_back);
    readable = s.readable;
    cs = s.cs;
    commits = s.commits;
  }

  pub new_stands : Stands kind lawful new (ts ++ t ∷ []) (lay t units)
  new_stands = stands_then kind lawful d ts units s few x new refl (new_keeps ((commit_law kind lawful d ts units s few x).cut dark new cut new_back))
