-- Units and places of an image, filled. Assumes nothing.
use Rattle.std.proofs.Common.{rules, ◌-◌, ◌≡◌, ℕ, ◌+◌, ◌*◌, ◌/◌, ◌<◌, ◌≤◌, true, ◌&&◌, leb, ◌≢◌, List, [], length, get_or, set, sym, ap, ◌∙◌, inl, inr, arith, get_or-set_other, get_or-set_same, below_more}
use borrow.Rule.Slice.PartMut.{put_mid}
use Rattle.std.proofs.lemmas.List.{places}
use Rattle.std.proofs.lemmas.Bool.{cases_lt, and_parts, leb-true}
use Rattle.ringlaws.specs.Layout.{most_places, is_ring, used, unit_at, after}
use Rattle.ringlaws.specs.TxnInfo.{Transaction, count_limit, taken}
use Rattle.ringlaws.specs.Spells.{units_of}
use Rattle.ringlaws.specs.Appends.{has_room, Appended}
use Rattle.ringlaws.proofs.Places.{after_apart, after_below}
use Rattle.ringlaws.proofs.Units.{unit_is, unit_same}
use Rattle.ringunits.specs.Images.{contents_of, Filled, FilledPlaces, can_append}
use Rattle.ringunits.proofs.Rings.{ring}

pub unit_filled : (unit : ℕ) (words old : List ℕ) → length words ≡ 32 → 32 * (unit + 1) ≤ length old → Filled unit words old (put_mid (32 * unit) (32 * (unit + 1) - 32 * unit) old words)
unit_filled unit words old told fits = record {
  long = search (rules, places);
  here = sym (unit_is (contents_of new) unit words told (λ j lt. sym (at_filled j lt)));
  others = λ w ne. elim (cases_lt w (32 * unit)) [ inl l ↦ search (rules, places) | inr g ↦ beyond w (let z = ne in omega arith) ];
}
  where
    new : List ℕ
    new = put_mid (32 * unit) (32 * (unit + 1) - 32 * unit) old words

    at_filled : (j : ℕ) → j < 32 → get_or new (32 * unit + j) 0 ≡ get_or words j 0
    at_filled j lt = search (rules, places)

    beyond : (w : ℕ) → 32 * unit + 32 ≤ w → get_or new w 0 ≡ get_or old w 0
    beyond w g = search (rules, places)

-- the next place is filled
pub places_more : (N place i p : ℕ) (units : List (List ℕ)) (words old cur new : List ℕ) → place < N → i < N → p ≡ after N place i → words ≡ get_or units i []
    → Filled (p + 1) words cur new → FilledPlaces N place i units old cur → FilledPlaces N place (i + 1) units old new
places_more N place i p units words old cur new l less e same f s = record {
  long = f.long ∙ s.long;
  here = below_more _ _
      (λ k lt. unit_same (contents_of cur) (contents_of new) (after N place k + 1)
      (λ j small. f.others (32 * (after N place k + 1) + j)
      (λ z. after_apart N place k i l lt less (let q : (32 * (after N place k + 1) + j) / 32 ≡ after N place k + 1 = omega arith in omega arith)))
      ∙ s.here k lt)
      (ap (λ q. unit_at (contents_of new) (q + 1)) (sym e) ∙ f.here ∙ same);
  others = λ w g. f.others w (λ z. g i (omega arith) (omega arith)) ∙ s.others w (λ k lt. g k (omega arith));
}

-- a transaction's places filled and the tail moved
pub tail_moved : (N n t : ℕ) (txn : Transaction) (old mid : List ℕ) → n ≡ taken (length txn) → t ≡ after N (get_or old 16 0) n → get_or old 16 0 < N → 32 ≤ length old
    → FilledPlaces N (get_or old 16 0) (taken (length txn)) (units_of txn) old mid → Appended N txn (contents_of old) (contents_of (set mid 16 t))
tail_moved N n t txn old mid many e l room f =
    let long = f.long in
    let inside : 16 < length mid = omega arith in
    record {
      tail = rw get_or-set_same (e ∙ ap (after N (get_or old 16 0)) many);
      unit_zero = λ w lt ne. let other : w ≢ 16 = ne in rw get_or-set_other (f.others w (λ i less z. omega arith));
      units = λ i lt. unit_same (contents_of mid) (contents_of (set mid 16 t)) (after N (get_or old 16 0) i + 1)
          (λ j small. let ne : 32 * (after N (get_or old 16 0) i + 1) + j ≢ 16 = omega arith in rw get_or-set_other) ∙ f.here i lt;
      others = λ p lt g. unit_same (contents_of old) (contents_of (set mid 16 t)) (p + 1)
          (λ j small. let ne : 32 * (p + 1) + j ≢ 16 = omega arith in
          rw get_or-set_other (f.others (32 * (p + 1) + j) (λ i less z. g i less (let q : (32 * (p + 1) + j) / 32 ≡ p + 1 = omega arith in omega arith))));
      beyond = λ w ge. let ne : w ≢ 16 = omega arith in
          rw get_or-set_other (f.others w (λ i less z. let b = after_below N (get_or old 16 0) i l in omega arith));
    }

-- an image that can take a transaction is long enough, and its tail is a place
module _ (N count : ℕ) (image : List ℕ) (can : can_append N image count ≡ true) where
  rest : (leb (32 * (N + 1)) (length image) && (is_ring N (get_or image 8 0) (get_or image 16 0)
      && (leb 1 count && (leb count count_limit && has_room N (used N (contents_of image)) count)))) ≡ true
  rest = (and_parts (leb N most_places) (leb (32 * (N + 1)) (length image) && (is_ring N (get_or image 8 0) (get_or image 16 0)
      && (leb 1 count && (leb count count_limit && has_room N (used N (contents_of image)) count)))) can).1

  long : 32 * (N + 1) ≤ length image
  long = leb-true (32 * (N + 1)) (length image) (and_parts (leb (32 * (N + 1)) (length image)) _ rest).0

  pub can_long : 32 ≤ length image
  can_long = let l = long in omega arith

  pub can_tail : get_or image 16 0 < N
  can_tail =
      (ring N (get_or image 8 0) (get_or image 16 0)
      (and_parts (is_ring N (get_or image 8 0) (get_or image 16 0)) (leb 1 count && (leb count count_limit && has_room N (used N (contents_of image)) count))
      (and_parts (leb (32 * (N + 1)) (length image)) _ rest).1).0).tail_in
