-- A record looked up: in its newest place, or at its home. Assumes nothing.
use Rattle.std.proofs.Common.{◌≡◌, ℕ, ◌+◌, ◌*◌, ◌/◌, ◌%◌, ◌<◌, ◌≤◌, true, false, cond, leb, List, Some, None, Ok, Err, Option, Result, sym, ap, ◌∙◌, inl, inr, arith, MatchResult}
use Rattle.std.proofs.lemmas.Bool.Decides.{nat_tests}
use Rattle.refusal.specs.declared.reason.Refusal.{Refusal}
use Rattle.refusal.specs.declared.reason.Refusal.TheVariants.{Beyond, Dark}
use Rattle.device.specs.Words.{NvmMeaning, loads, words_of}
use Rattle.device.specs.Sectors.{DiskMeaning, sectors_of, block_of, read_refusal}
use Rattle.ringlaws.specs.Layout.{Contents, unit_at, home_block}
use Rattle.ringlaws.specs.TxnInfo.{Transaction}
use Rattle.ringlaws.proofs.Seek.{newest_is_a_place}
use Rattle.ring.specs.Sources.{Agrees, RefusesWithin}
use Rattle.ring.specs.Walks.{Finds}
use Rattle.ringunits.specs.Images.{contents_of}
use Rattle.ringunits.proofs.Rings.{ring}
use Rattle.calls.specs.Table.{home_unit, table}
use Rattle.checkpointing.specs.Rows.{unit_from}
use Rattle.checkpointing.specs.Ready.{Ready}
use Rattle.checkpointing.proofs.Loading.{loads_agree, loads_within, table_by_place, home_in_block}

-- with power and within the size a read is not refused
pub read_open : (m : DiskMeaning) (b : ℕ) (e : Refusal) → m.dark ≡ false → b < m.size → read_refusal m b ≡ Some e → ⊥
read_open m b e lit lt h =
    let near : leb m.size b ≡ false = grind (arith, nat_tests) in
    let q : ◌≡◌ {A = Option Refusal} None (Some e) =
    sym (ap (λ t. cond t (Some Dark) (cond (leb m.size b) (Some Beyond) None)) lit ∙ ap (λ t. cond t (Some Beyond) None) near) ∙ h in
    let z : ◌≡◌ {A = ℕ} 0 1 = cc in
    omega arith

module _ (N head tail r : ℕ) (m : NvmMeaning) where
  pub found_below : (o : Option ℕ) (p : ℕ) → Finds (loads m) N head tail r (Ok o) → o ≡ Some p → (p < N) × (N ≤ 255)
  found_below o p (i, f) e =
      let k = ring N head tail i in
      (newest_is_a_place N (words_of m) head tail r p k.head_in k.tail_in (sym (f (words_of m) (loads_agree m)) ∙ e), k.most)

  module _ (B : ℕ) (d : DiskMeaning) (ts : List Transaction) (ready : Ready N B m d head tail ts) where
    pub found_open : (e : Refusal) → Finds (loads m) N head tail r (Err e) → ⊥
    found_open e (inl (i, q)) = let z : true ≡ false = sym ready.fit.ring ∙ i in let y : ◌≡◌ {A = ℕ} 0 1 = cc in omega arith
    found_open e (inr (i, w)) = loads_within m (N + 1) e ready.fit.nvm_lit ready.fit.units w

    pub found_unit : (o : Option ℕ) (p : ℕ) (x : Result (List ℕ) Refusal) → Finds (loads m) N head tail r (Ok o) → o ≡ Some p
        → MatchResult x (λ words. (c : Contents) → Agrees (loads m) c → words ≡ unit_at c (p + 1)) (λ e. RefusesWithin (loads m) (p + 1 + 1) e)
        → x ≡ Ok (table ts (sectors_of d) r)
    found_unit o p (Ok words) f e h =
        ap Ok (h (words_of m) (loads_agree m)
        ∙ sym (table_by_place N B (words_of m) head tail ts (sectors_of d) r ready.fit.ring ready.spells
        ∙ ap (λ q. unit_from (words_of m) q (home_unit (sectors_of d) r)) (sym (f.1 (words_of m) (loads_agree m)) ∙ e)))
    found_unit o p (Err y) f e h =
        let b = found_below o p f e in
        let u = ready.fit.units in
        absurd (loads_within m (p + 1 + 1) y ready.fit.nvm_lit (omega (arith, b.0, u)) h)

    pub home_unit_lem : (o : Option ℕ) (block : ℕ) (buf words : List ℕ) → Finds (loads m) N head tail r (Ok o) → o ≡ None → block ≡ home_block r → buf ≡ block_of (sectors_of d) block
        → words ≡ unit_at (contents_of buf) (r % 16) → words ≡ table ts (sectors_of d) r
    home_unit_lem o block buf words f e b read w =
        let q : 16 * (r / 16) + r % 16 ≡ r = omega arith in
        w ∙ ap (λ x. unit_at (contents_of x) (r % 16)) (read ∙ ap (block_of (sectors_of d)) b)
        ∙ home_in_block (sectors_of d) (r / 16) (r % 16) (omega arith)
        ∙ ap (home_unit (sectors_of d)) q
        ∙ sym (table_by_place N B (words_of m) head tail ts (sectors_of d) r ready.fit.ring ready.spells
        ∙ ap (λ x. unit_from (words_of m) x (home_unit (sectors_of d) r)) (sym (f.1 (words_of m) (loads_agree m)) ∙ e))
