-- A commit is two phases: its places filled, then its tail moved. Assumes nothing.
use Rattle.std.proofs.Common.{◌≡◌, ℕ, ◌+◌, ◌/◌, ◌<◌, ◌≤◌, Bool, true, false, not, ◌||◌, List, [], ◌∷◌, ◌++◌, map, length, get_or, sym, refl, ap, ◌∙◌, subst, arith}
use Rattle.std.proofs.lemmas.Bool.{not-true}
use Rattle.std.proofs.lemmas.List.{map-append}
use Rattle.device.specs.Pieces.{settled, present_value}
use Rattle.device.specs.Words.{NvmAct, Store, Flush, Fence, nvm_rules}
use Rattle.crash.specs.Acts.{Leads, Accepts, Spares, Calmer, made}
use Rattle.crash.specs.Keeping.{nvm_keeps, kept, Phase}
use Rattle.crash.specs.Rows.{sealing, nvm_touches, stores_word, flushes_line, Flushes}
use Rattle.crash.specs.Pair.{on_nvm}
use Rattle.crash.proofs.Tame.{nvm_is_tame}
use Rattle.crash.proofs.Follow.{leads_append, accepts_append, accepts_calmer}
use Rattle.crash.proofs.Touching.{some_append}
use Rattle.crash.proofs.Rows.{unstored_spared}
use Rattle.crash.proofs.Phases.{made_kept, stores_are_a_phase, sealing_is_a_phase}
use Rattle.ringlaws.specs.Layout.{Contents, tail_of, tail_word}
use Rattle.ringlaws.specs.TxnInfo.{Transaction, taken}
use Rattle.ringlaws.specs.Spells.{units_of}
use Rattle.ringlaws.specs.Appends.{tail_after}
use Rattle.ringlaws.proofs.Units.{units_of_long}
use Rattle.calls.specs.Acts.{placing, flushing_places, commit_acts}
use Rattle.calllaws.proofs.CommitPlaces.{in_places, filled, committed}
use Rattle.calllaws.proofs.CommitActs.{places_flushed, flushes_within, places_stored, stores_within, places_kept}

-- The acts of a commit on the memory: stores, flushes, and these with the fence, before the tail is stored; and all of them.
abbrev stores : ℕ → Contents → Transaction → List NvmAct
stores N c t = placing N (tail_of c) (units_of t)

abbrev flushes : ℕ → Contents → Transaction → List NvmAct
flushes N c t = flushing_places N (tail_of c) (taken (length t))

abbrev pub preparing : ℕ → Contents → Transaction → List NvmAct
preparing N c t = stores N c t ++ (flushes N c t ++ Fence ∷ [])

abbrev moving_tail : ℕ → Contents → Transaction → List NvmAct
moving_tail N c t = sealing tail_word (tail_after N c t)

abbrev pub committing : ℕ → Contents → Transaction → List NvmAct
committing N c t = preparing N c t ++ moving_tail N c t

pub acts_are : (N : ℕ) (c : Contents) (t : Transaction) → 1 ≤ length t → commit_acts N c t ≡ map on_nvm (committing N c t)
acts_are N c [] le = absurd (omega arith)
acts_are N c (s ∷ t) le = sym (map-append on_nvm (preparing N c (s ∷ t)) (moving_tail N c (s ∷ t)))

-- everything but the words of the places that are filled
abbrev pub others : ℕ → Contents → Transaction → ℕ → Bool
others N c t w = not (in_places N (tail_of c) (length (units_of t)) w)

-- flushes and a fence store nothing
flushes_store_none : (u : ℕ) (acts : List NvmAct) → Flushes u acts → (w : ℕ) → stores_word w (acts ++ Fence ∷ []) ≡ false
flushes_store_none u [] h w = refl
flushes_store_none u (Store x v ∷ more) (never, h) w = absurd never
flushes_store_none u (Flush l ∷ more) (lt, h) w = flushes_store_none u more h w
flushes_store_none u (Fence ∷ more) (never, h) w = absurd never

module _ (N : ℕ) (c : Contents) (t : Transaction) (lt : tail_of c < N) (few : length (units_of t) < N)
    (whole : (k : ℕ) → k < length (units_of t) → length (get_or (units_of t) k []) ≡ 32) where
  stored : (w : ℕ) → stores_word w (stores N c t) ≡ in_places N (tail_of c) (length (units_of t)) w
  stored w = places_stored N (tail_of c) lt (units_of t) whole (length (units_of t)) (omega arith) (omega arith) w

  -- the line of each word that is stored is flushed
  covers : (w : ℕ) → stores_word w (stores N c t) ≡ true → flushes_line (w / 8) (flushes N c t) ≡ true
  covers w h =
      let n = units_of_long t in
      places_flushed N (tail_of c) lt (taken (length t)) (omega arith) w ∙ ap (λ k. in_places N (tail_of c) k w) (sym n) ∙ sym (stored w) ∙ h

  placed : Phase nvm_rules nvm_keeps (N + 1) c (preparing N c t) (λ w. kept nvm_keeps (stores N c t) w (c w))
  placed =
      stores_are_a_phase (N + 1) (stores N c t) (flushes N c t) c
      (stores_within N (tail_of c) lt (units_of t) whole (length (units_of t)) (omega arith) (omega arith))
      (flushes_within N (tail_of c) lt (taken (length t)))
      covers

  -- the first phase fills the places
  pub prepares : Leads nvm_rules c (preparing N c t) (filled N (tail_of c) (units_of t) c)
  prepares w =
      placed.leads w ∙ ap settled (places_kept N (tail_of c) lt (units_of t) whole (length (units_of t)) (omega arith) (omega arith) w (c w))

  -- and touches nothing else
  pub spares : Spares nvm_rules (others N c t) (preparing N c t)
  spares = unstored_spared (others N c t) (preparing N c t) unstored
    where
      unstored : (w : ℕ) → others N c t w ≡ true → stores_word w (preparing N c t) ≡ false
      unstored w h =
          some_append (λ a. nvm_touches a w) (stores N c t) (flushes N c t ++ Fence ∷ [])
          ∙ ap (λ b. b || stores_word w (flushes N c t ++ Fence ∷ [])) (stored w ∙ not-true (in_places N (tail_of c) (length (units_of t)) w) h)
          ∙ flushes_store_none (N + 1) (flushes N c t) (flushes_within N (tail_of c) lt (taken (length t))) w

  -- the second moves the tail
  seals : Phase nvm_rules nvm_keeps (N + 1) (filled N (tail_of c) (units_of t) c) (moving_tail N c t) (committed N t c)
  seals = sealing_is_a_phase (N + 1) tail_word (tail_after N c t) (filled N (tail_of c) (units_of t) c) (omega arith)

  -- both together
  pub leads : Leads nvm_rules c (committing N c t) (committed N t c)
  leads = leads_append nvm_rules c (filled N (tail_of c) (units_of t) c) (committed N t c) (preparing N c t) (moving_tail N c t) prepares seals.leads

  pub accepted : Accepts nvm_rules (N + 1) (λ w. settled (c w)) (committing N c t)
  accepted = accepts_append nvm_rules (preparing N c t) (moving_tail N c t) (N + 1) (λ w. settled (c w)) placed.accepted then_accepted
    where
      then_accepted : Accepts nvm_rules (N + 1) (λ w. made nvm_rules (preparing N c t) w (settled (c w))) (moving_tail N c t)
      then_accepted =
          accepts_calmer nvm_rules nvm_keeps nvm_is_tame (N + 1) (λ w. settled (filled N (tail_of c) (units_of t) c w))
          (λ w. made nvm_rules (preparing N c t) w (settled (c w))) (moving_tail N c t)
          (λ w. subst (Calmer (settled (filled N (tail_of c) (units_of t) c w))) (sym (prepares w)) refl)
          seals.accepted

  -- what the whole run leaves in a word
  pub left : (w : ℕ) → kept nvm_keeps (committing N c t) w (c w) ≡ committed N t c w
  left w = sym (made_kept nvm_rules nvm_keeps nvm_is_tame (committing N c t) w (settled (c w))) ∙ ap present_value (leads w)
