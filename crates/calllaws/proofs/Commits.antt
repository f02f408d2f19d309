-- A commit, performed whole or cut anywhere, leaves the old ring or the new one. Assumes nothing.
use Rattle.std.proofs.Common.{◌≡◌, ℕ, zero, suc, ◌+◌, ◌-◌, ◌*◌, ◌<◌, ◌≤◌, true, false, not, ltb, ◌⊎◌, List, [], ◌∷◌, ◌++◌, map, length, get_or, unwrap_or, sym, refl, ap, ◌∙◌, subst, inl, inr, arith}
use lib.ListN.{length-map}
use Rattle.std.proofs.lemmas.Bool.Decides.{nat_tests}
use Rattle.std.proofs.lemmas.Bool.{le-leb}
use Rattle.device.specs.Pieces.{settled, present_value}
use Rattle.device.specs.Words.{words_of, nvm_rules}
use Rattle.device.specs.Sectors.{disk_rules}
use Rattle.crash.specs.Acts.{Accepts}
use Rattle.crash.specs.Keeping.{nvm_keeps}
use Rattle.crash.specs.Pair.{Pair, Act, on_nvm, PerformedPair, CutPair, PairRestarted, PairRests, PairAccepts}
use Rattle.crash.proofs.Tame.{nvm_is_tame}
use Rattle.crash.proofs.Steps.{restart_settles}
use Rattle.crash.proofs.Follow.{accepts_settled, run_size, begun_size}
use Rattle.crash.proofs.Pairs.{nvm_own, disk_none, runs_part, cuts_part}
use Rattle.crash.proofs.PairPhases.{nvm_phase_settles, sealing_both_is_atomic}
use Rattle.ringlaws.specs.Layout.{Contents, head_of, tail_of, ground_word, places_word, blocks_word, head_word, tail_word, place_at, after, used}
use Rattle.ringlaws.specs.TxnInfo.{Transaction, numbers_of, record_units, info_unit, count_limit, taken}
use Rattle.ringlaws.specs.Spells.{units_of, Whole, Fair}
use Rattle.ringlaws.specs.Newest.{setting_of, lay, laid}
use Rattle.ringlaws.specs.Appends.{tail_after, Appended}
use Rattle.ringlaws.proofs.Places.{after_below}
use Rattle.ringlaws.proofs.Infos.{info_long}
use Rattle.ringlaws.proofs.Units.{unit_same, units_of_long}
use Rattle.ringlaws.proofs.Append.{appended_spells_one_more, only_used_places_matter}
use Rattle.calls.specs.Table.{home_unit}
use Rattle.calls.specs.Acts.{commit_acts}
use Rattle.calls.specs.Plans.{is_full}
use Rattle.calllaws.specs.Holds.{Ready, Holds, Keeps}
use Rattle.calllaws.specs.CommitLaw.{CommitsAreAtomic}
use Rattle.calllaws.proofs.CommitPlaces.{filled, committed, committed_appends, low_out, far_out, used_ahead}
use Rattle.calllaws.proofs.CommitPhases.{preparing, committing, acts_are, others, prepares, spares, leads, accepted, left}

-- each unit of a fair transaction has 32 words
whole_at : (us : List (List ℕ)) → Whole us → (k : ℕ) → k < length us → length (get_or us k []) ≡ 32
whole_at [] h k lt = absurd (omega arith)
whole_at (u ∷ us) (x, h) zero lt = x
whole_at (u ∷ us) (x, h) (suc k) lt = whole_at us h k (omega arith)

whole_push : (us : List (List ℕ)) (u : List ℕ) → Whole us → length u ≡ 32 → Whole (us ++ u ∷ [])
whole_push [] u h e = (e, tt)
whole_push (x ∷ us) u (y, h) e = (y, whole_push us u h e)

pub units_whole : (B : ℕ) (t : Transaction) → Fair B t → Whole (units_of t)
units_whole B t fair =
    let n = length-map t (λ s. s.number) in
    let most : length (numbers_of t) ≤ count_limit = let k = fair.most in omega arith in
    whole_push (record_units t) (info_unit (numbers_of t)) fair.whole (info_long (numbers_of t) most)

-- one more transaction laid over the rest
pub laid_push : (ts : List Transaction) (t : Transaction) (homes : ℕ → List ℕ) (r : ℕ) → laid (ts ++ t ∷ []) homes r ≡ lay t (laid ts homes) r
unfolding laid
laid_push [] t homes r = refl
laid_push (s ∷ ts) t homes r = laid_push ts t (lay s homes) r

room_is : (N : ℕ) (c : Contents) (t : Transaction) → 1 ≤ length t → is_full N c t ≡ false → used N c + taken (length t) ≤ N - 1
room_is N c [] le e = absurd (omega arith)
room_is N c (s ∷ t) le e = at (used N c) (length (s ∷ t)) e
  where
    at : (u n : ℕ) → ltb (N - 1) (u + (n + 1)) ≡ false → u + (n + 1) ≤ N - 1
    at u n e = grind (arith, nat_tests)

module _ (N B : ℕ) (c : Contents) (e : ℕ → List ℕ) (ts : List Transaction) (units : ℕ → List ℕ) (t : Transaction) (m : Pair)
    (ready : Ready N B c e m) (holds : Holds N B c e ts units) (fair : Fair B t) (notFull : is_full N c t ≡ false) where
  room : used N c + taken (length t) ≤ N - 1
  room = room_is N c t fair.least notFull

  less : used N c + length (units_of t) < N
  less = let r = room in let l = ready.least in let n = units_of_long t in omega arith

  few : length (units_of t) < N
  few = let l = less in omega arith

  whole : (k : ℕ) → k < length (units_of t) → length (get_or (units_of t) k []) ≡ 32
  whole = whole_at (units_of t) (units_whole B t fair)

  -- The new contents hold the new table.
  holds_new : Holds N B (committed N t c) e (ts ++ t ∷ []) (lay t units)
  holds_new = record {
    mark = low ground_word (omega arith) (λ h. omega arith) ∙ holds.mark;
    places = low places_word (omega arith) (λ h. omega arith) ∙ holds.places;
    blocks = low blocks_word (omega arith) (λ h. omega arith) ∙ holds.blocks;
    head = subst (λ x. x < N) (sym (low head_word (omega arith) (λ h. omega arith))) holds.head;
    tail = subst (λ x. x < N) (sym appends.tail) (after_below N (tail_of c) (taken (length t)) holds.tail);
    spells = (appended_spells_one_more N B c (committed N t c) ts t holds.head holds.tail holds.spells fair
        (le-leb (used N c + taken (length t)) (N - 1) room) appends).0;
    same = λ r lt. laid_push ts t (home_unit e) r ∙ ap (unwrap_or (setting_of t r)) (holds.same r lt);
  }
    where
      appends : Appended N t c (committed N t c)
      appends = committed_appends N t c holds.tail few whole

      low : (w : ℕ) → w < 32 → (w ≡ tail_word → ⊥) → committed N t c w ≡ c w
      low = (committed_appends N t c holds.tail few whole).unit_zero

  -- Contents that are as they were but for the places from the tail on hold the old table.
  holds_old : (x : Contents) → ((w : ℕ) → others N c t w ≡ true → x w ≡ c w) → Holds N B x e ts units
  holds_old x same = record {
    mark = low ground_word (omega arith) ∙ holds.mark;
    places = low places_word (omega arith) ∙ holds.places;
    blocks = low blocks_word (omega arith) ∙ holds.blocks;
    head = subst (λ z. z < N) (sym (low head_word (omega arith))) holds.head;
    tail = subst (λ z. z < N) (sym (low tail_word (omega arith))) holds.tail;
    spells = only_used_places_matter N B c x ts holds.head holds.tail (low tail_word (omega arith))
        record { head = low head_word (omega arith); places = used_places } holds.spells;
    same = holds.same;
  }
    where
      low : (w : ℕ) → w < 32 → x w ≡ c w
      low w lt = same w (ap not (low_out N (tail_of c) (length (units_of t)) w lt))

      used_places : (k : ℕ) → k < used N c → place_at x (after N (head_of c) k) ≡ place_at c (after N (head_of c) k)
      used_places k lt =
          let far = used_ahead N (head_of c) (tail_of c) (length (units_of t)) k holds.head holds.tail less lt in
          unit_same c x (after N (head_of c) k + 1)
          (λ j s. same (32 * (after N (head_of c) k + 1) + j) (ap not (far_out N (tail_of c) (length (units_of t)) (after N (head_of c) k) j s far)))

  still_ready : (n : Pair) (x : Contents) → n.nvm.size ≡ m.nvm.size → n.disk.size ≡ m.disk.size → PairRests x e n → Ready N B x e n
  still_ready n x s d rests = record {
    least = ready.least;
    most = ready.most;
    some = ready.some;
    few = ready.few;
    units = s ∙ ready.units;
    blocks = d ∙ ready.blocks;
    rests = rests;
  }

  acts : commit_acts N c t ≡ map on_nvm (committing N c t)
  acts = acts_are N c t fair.least

  accepts : PairAccepts m (commit_acts N c t)
  accepts = subst (PairAccepts m) (sym acts) record {
    nvm = subst (Accepts nvm_rules m.nvm.size m.nvm.piece) (sym (nvm_own (committing N c t)))
        (accepts_settled nvm_rules nvm_keeps nvm_is_tame c m.nvm (committing N c t) ready.rests.nvm
        (subst (λ u. Accepts nvm_rules u (λ w. settled (c w)) (committing N c t)) (sym ready.units) (accepted N c t holds.tail few whole)));
    disk = subst (Accepts disk_rules m.disk.size m.disk.piece) (sym (disk_none (committing N c t))) tt;
  }

  performed : (n : Pair) → PerformedPair m (commit_acts N c t) n → Keeps N B n (ts ++ t ∷ []) (lay t units)
  performed n ran =
      let (x, y) = runs_part (commit_acts N c t) m n ran in
      let rests = nvm_phase_settles c (committed N t c) e (committing N c t) m n ready.rests (leads N c t holds.tail few whole)
      (subst (λ (a : List Act). PerformedPair m a n) acts ran)
      in
      record { words = committed N t c; sectors = e; ready = still_ready n (committed N t c) (run_size nvm_rules x) (run_size disk_rules y) rests; holds = holds_new }

  cut : (n p : Pair) → CutPair m (commit_acts N c t) n → PairRestarted n p → Keeps N B p ts units ⊎ Keeps N B p (ts ++ t ∷ []) (lay t units)
  cut n p stopped again =
      let (dark, x, y) = cuts_part (commit_acts N c t) m n stopped in
      let size : p.nvm.size ≡ m.nvm.size = again.nvm.size ∙ begun_size nvm_rules x in
      let blocks : p.disk.size ≡ m.disk.size = again.disk.size ∙ begun_size disk_rules y in
      let (disk, words) = sealing_both_is_atomic c (filled N (tail_of c) (units_of t) c) e (preparing N c t) tail_word (tail_after N c t) (others N c t) m n p ready.rests
      (prepares N c t holds.tail few whole) (spares N c t holds.tail few whole) (ap not (low_out N (tail_of c) (length (units_of t)) tail_word (omega arith)))
      (subst (λ (a : List Act). CutPair m a n) acts stopped) again
      in
      elim words [
        | inl old ↦
            let rests : PairRests (words_of p.nvm) e p = record { nvm = restart_settles _ _ n.nvm p.nvm again.nvm; disk = disk } in
            inl record {
              words = words_of p.nvm;
              sectors = e;
              ready = still_ready p (words_of p.nvm) size blocks rests;
              holds = holds_old (words_of p.nvm) (λ w h. ap present_value (old w h));
            }
        | inr all ↦
            let rests : PairRests (committed N t c) e p = record { nvm = λ w. all w ∙ ap settled (left N c t holds.tail few whole w); disk = disk } in
            inr record { words = committed N t c; sectors = e; ready = still_ready p (committed N t c) size blocks rests; holds = holds_new }
      ]

pub commits_are_atomic : CommitsAreAtomic
commits_are_atomic N B c e ts units t m ready holds fair notFull =
    record {
      accepts = accepts N B c e ts units t m ready holds fair notFull;
      whole = performed N B c e ts units t m ready holds fair notFull;
      cut = cut N B c e ts units t m ready holds fair notFull;
    }
