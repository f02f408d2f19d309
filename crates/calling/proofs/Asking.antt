-- What a mount finds of the contents of a memory. Assumes nothing.
use Rattle.std.proofs.Common.{◌≡◌, ℕ, ◌+◌, ◌*◌, ◌<◌, ◌≤◌, Bool, true, false, cond, ◌&&◌, eqb, ltb, leb, IsErrAnd, Some, None, Ok, Err, Result, sym, refl, ap, ◌∙◌, subst, arith, MatchResult}
use Rattle.std.proofs.lemmas.Bool.{cond-true, and_from, both_ways, eq-eqb, lt-ltb, le-leb, leb-true}
use Rattle.refusal.specs.declared.reason.Refusal.{Refusal}
use Rattle.refusal.specs.declared.reason.Refusal.TheVariants.{Dark, Beyond, NoGroundMark, BadHeader, UnsoundRing}
use Rattle.device.specs.Words.{NvmMeaning, words_of, loads}
use Rattle.ringlaws.specs.Layout.{Contents, is_ring, ground_mark, ground_word, places_word, blocks_word, head_of, tail_of, most_places}
use Rattle.ringlaws.specs.Sound.{bad_at, step_back, SoundBetween}
use Rattle.ring.specs.Walks.{WhyRefused, no_ring, handed_on, unsound}
use Rattle.calls.specs.Plans.{fit_header, damage, mount_refusal}
use Rattle.checkpointing.proofs.Loading.{loads_agree}

-- a refusal that is handed on
pub carried : {V : Type 0} (e : Refusal) (r : Result V Refusal) (P : V → Type 0) (Q : Refusal → Type 0) → IsErrAnd r (λ y. y ≡ e) → Q e → MatchResult r P Q
carried e (Ok v) P Q b q = absurd b
carried e (Err y) P Q b q = subst Q (sym b) q

-- a memory with power answers its own words
no_refusal : (m : NvmMeaning) (w : ℕ) (e : Refusal) → w < 32 * m.size → m.dark ≡ false → loads m w ≡ Err e → ⊥
no_refusal m w e lt lit h = go m.dark (leb (32 * m.size) w) refl lit h
  where
    go : (x y : Bool) → leb (32 * m.size) w ≡ y → x ≡ false → cond x (Err Dark) (cond y (Err Beyond) (Ok (words_of m w))) ≡ Err e → ⊥
    go true y k l h = let z : ◌≡◌ {A = ℕ} 0 1 = cc in omega arith
    go false true k l h = let b = leb-true (32 * m.size) w k in omega (arith, b, lt)
    go false false k l h = let z : ◌≡◌ {A = ℕ} 0 1 = cc in omega arith

module _ (N B : ℕ) (c : Contents) (mark : c ground_word ≡ ground_mark) (places : c places_word ≡ N) (blocks : c blocks_word ≡ B) (head : head_of c < N) (tail : tail_of c < N) where
  by_ring : mount_refusal N B c ≡ damage (step_back N B c (head_of c) (tail_of c))
  by_ring =
      cond-true (eqb (c ground_word) ground_mark) (cond (fit_header N B c) (damage (step_back N B c (head_of c) (tail_of c))) (Some BadHeader)) (Some NoGroundMark) (eq-eqb (c ground_word) ground_mark mark)
      ∙ cond-true (fit_header N B c) (damage (step_back N B c (head_of c) (tail_of c))) (Some BadHeader)
      (and_from (eqb (c places_word) N && eqb (c blocks_word) B) (ltb (head_of c) N && ltb (tail_of c) N)
      (and_from (eqb (c places_word) N) (eqb (c blocks_word) B) (eq-eqb (c places_word) N places) (eq-eqb (c blocks_word) B blocks))
      (and_from (ltb (head_of c) N) (ltb (tail_of c) N) (lt-ltb (head_of c) N head) (lt-ltb (tail_of c) N tail)))

  pub is_sound : (h t : ℕ) → h ≡ head_of c → t ≡ tail_of c → SoundBetween N B c h t → mount_refusal N B c ≡ None
  is_sound h t p q s =
      let k : SoundBetween N B c (head_of c) (tail_of c) = subst (λ (i : ℕ). SoundBetween N B c i (tail_of c)) p (subst (λ (i : ℕ). SoundBetween N B c h i) q s) in
      by_ring ∙ ap damage k.1

  pub is_damaged : (h t p : ℕ) → h ≡ head_of c → t ≡ tail_of c → step_back N B c h t ≡ bad_at p → mount_refusal N B c ≡ Some (UnsoundRing p)
  is_damaged h t p x y s =
      by_ring ∙ ap damage (subst (λ (i : ℕ). step_back N B c i (tail_of c) ≡ bad_at p) x (subst (λ (i : ℕ). step_back N B c h i ≡ bad_at p) y s))

-- why the walk was refused
pub why : (m : NvmMeaning) (N B h t : ℕ) (e : Refusal) → m.dark ≡ false → m.size ≡ N + 1 → N ≤ most_places
    → words_of m ground_word ≡ ground_mark → words_of m places_word ≡ N → words_of m blocks_word ≡ B → h < N → t < N
    → h ≡ head_of (words_of m) → t ≡ tail_of (words_of m) → WhyRefused (loads m) N B h t e → mount_refusal N B (words_of m) ≡ Some e
why m N B h t Beyond lit size most mark places blocks head tail x y (no_ring out) =
    absurd (both_ways (is_ring N h t) out (and_from (leb N most_places) (ltb h N && ltb t N) (le-leb N most_places most) (and_from (ltb h N) (ltb t N) (lt-ltb h N head) (lt-ltb t N tail))))
why m N B h t e lit size most mark places blocks head tail x y (handed_on is (w, lt, refused)) =
    absurd (no_refusal m w e (let a = size in omega (arith, a, lt)) lit refused)
why m N B h t (UnsoundRing p) lit size most mark places blocks head tail x y (unsound is bad) =
    is_damaged N B (words_of m) mark places blocks (subst (λ (i : ℕ). i < N) x head) (subst (λ (i : ℕ). i < N) y tail) h t p x y (bad (words_of m) (loads_agree m))
