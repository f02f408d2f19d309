-- A transaction added to a ring, and what does not matter to it. Assumes nothing.
use Rattle.std.proofs.Common.{◌≡◌, ℕ, ◌+◌, ◌-◌, ◌<◌, [], ◌∷◌, ◌++◌, length, sym, ap, ◌∙◌, arith}
use Rattle.std.proofs.lemmas.Bool.{leb-true}
use Rattle.ringlaws.specs.Layout.{head_of, tail_of, head_word, place_at, after, used_between, used, units_from}
use Rattle.ringlaws.specs.TxnInfo.{taken}
use Rattle.ringlaws.specs.Spells.{units_of, written}
use Rattle.ringlaws.specs.Laws.{AppendedSpellsOneMore, OnlyUsedPlacesMatter, EmptySpellsNothing}
use Rattle.ringlaws.proofs.Places.{after_after, after_apart, used_more, used_none, used_below, tail_is, after_below}
use Rattle.ringlaws.proofs.Units.{units_are, units_append, units_same, units_of_long, written_push, fair_append}

pub appended_spells_one_more : AppendedSpellsOneMore
appended_spells_one_more N B c d ts t h l s fair room a =
    let n : ℕ = used N c in
    let k : ℕ = taken (length t) in
    let fits = leb-true (n + k) (N - 1) room in
    let below : n < N = used_below N (head_of c) (tail_of c) l in
    let less : n + k < N = omega arith in
    let head : head_of d ≡ head_of c = a.unit_zero head_word (omega arith) (λ e. omega arith) in
    let more : used N d ≡ n + k =
    ap (λ x. used_between N x (tail_of d)) head ∙ ap (used_between N (head_of c)) a.tail ∙ used_more N (head_of c) (tail_of c) k h l less in
    let there : after N (head_of c) n ≡ tail_of c = tail_is N (head_of c) (tail_of c) h l in
    let old : units_from N d (head_of c) n ≡ units_from N c (head_of c) n =
    units_same N c d (head_of c) n (λ j lt. a.others (after N (head_of c) j) (after_below N (head_of c) j h)
    (λ i less2 e. after_apart N (head_of c) j (n + i) h (omega arith) (omega arith)
    (e ∙ ap (λ x. after N x i) (sym there) ∙ after_after N (head_of c) n i h (omega arith)))) in
    let new : units_from N d (after N (head_of c) n) k ≡ units_of t =
    sym (units_are N d (after N (head_of c) n) k (units_of t) (units_of_long t)
    (λ i lt. sym (a.units i lt) ∙ ap (λ x. place_at d (after N x i)) (sym there))) in (
      record {
        fair = fair_append B ts (t ∷ []) s.fair (fair, tt);
        places = ap (λ x. units_from N d x (used N d)) head ∙ ap (units_from N d (head_of c)) more ∙ units_append N d (head_of c) n k h (omega arith)
            ∙ ap (λ x. x ++ units_from N d (after N (head_of c) n) k) (old ∙ s.places) ∙ ap (λ x. written ts ++ x) new ∙ sym (written_push ts t);
      },
      more,
    )

pub only_used_places_matter : OnlyUsedPlacesMatter
only_used_places_matter N B c d ts h l tail same s =
    let u : used N d ≡ used N c = ap (λ x. used_between N (head_of d) x) tail ∙ ap (λ x. used_between N x (tail_of c)) same.head in
    record {
      fair = s.fair;
      places = ap (λ x. units_from N d x (used N d)) same.head ∙ ap (units_from N d (head_of c)) u ∙ units_same N c d (head_of c) (used N c) same.places ∙ s.places;
    }

pub empty_spells_nothing : EmptySpellsNothing
unfolding written units_from
empty_spells_nothing N B c h e =
    let u : used N c ≡ 0 = ap (used_between N (head_of c)) e ∙ used_none N (head_of c) h in
    record { fair = tt; places = ap (units_from N c (head_of c)) u }
