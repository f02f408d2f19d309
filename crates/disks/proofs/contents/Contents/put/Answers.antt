use Rattle.std.proofs.Common.{◌≡◌, ℕ, ◌+◌, ◌-◌, ◌*◌, ◌/◌, Bool, true, false, cond, ◌||◌, eqb, List, get_or, sym, refl, ap, ◌∙◌, arith}
use Rattle.std.proofs.lemmas.Bool.Decides.{nat_tests}
use Rattle.std.proofs.lemmas.Bool.{or_left, or_right}
use Rattle.simulated.specs.Lists.{inside, member}
use Rattle.simulated.specs.Listing.{lines_of, with_line}
use Rattle.simulated.proofs.Members.{member_with}
use Rattle.simulated.proofs.Lent.{lent_at}
use Rattle.disks.specs.Parts.{written, none_waits}
use Rattle.disks.proofs.contents.Contents.put.Goals as goal

-- a block whose sectors are made to wait is listed
listed_more : (x y : Bool) (lines : List ℕ) (b s : ℕ) → x ≡ cond (inside (8 * b) (8 * b + 8) s) true y → (y ≡ true → member (s / 8) lines ≡ true) → x ≡ true → member (s / 8) (with_line lines b) ≡ true
listed_more x y lines b s hx h e = member_with (s / 8) b lines ∙ by_test (eqb (s / 8) b) refl
  where
    by_test : (t : Bool) → eqb (s / 8) b ≡ t → (member (s / 8) lines || eqb (s / 8) b) ≡ true
    by_test true i = or_right _ _ i
    by_test false i =
        let out : inside (8 * b) (8 * b + 8) s ≡ false = grind (arith, nat_tests) in
        or_left _ _ (h (sym (hx ∙ ap (λ t. cond t true y) out) ∙ e))

pub invariant_of-self : goal.invariant_of-self
invariant_of-self c =
    let d = c.args.self.now in record {
      olds = d.olds;
      news = d.news;
      eights = d.eights;
      lists = c.add.ensures.size ∙ d.lists;
      listed = (λ s h. ap (member (s / 8)) c.add.ensures.lines ∙ listed_more _ _ (lines_of d.pending) c.args.block s
          (lent_at false d.waiting _ _ c.as_mut_slice-3.ensures.value c.set_marks.auto.marks s ∙ c.set_marks.ensures s)
          (λ e. d.listed s (ap (λ (xs : List Bool). get_or xs s false) (sym c.as_mut_slice-3.ensures.value) ∙ e)) h);
    }

pub returns-clause-sectors : goal.returns-clause-sectors
returns-clause-sectors c =
    let d = c.args.self.now in
    let b = c.args.block in
    written d.settled.items d.present.items _ _ c.args.buf.now d.waiting.items _ b
    (λ w. lent_at 0 d.settled _ _ c.as_mut_slice.ensures.value c.renew.auto.settled w ∙ c.renew.ensures.settled w
    ∙ ap (λ (xs : List ℕ). cond (eqb (w / 512) b) (get_or xs w 0) (get_or c.as_mut_slice.result.now w 0)) c.as_mut_slice-2.ensures.value
    ∙ ap (λ (xs : List ℕ). cond (eqb (w / 512) b) (get_or d.present.items w 0) (get_or xs w 0)) c.as_mut_slice.ensures.value)
    (λ w. lent_at 0 d.present _ _ c.as_mut_slice-2.ensures.value c.renew.auto.present w ∙ c.renew.ensures.present w
    ∙ ap (λ (xs : List ℕ). cond (eqb (w / 512) b) (get_or c.args.buf.now (w - 512 * b) 0) (get_or xs w 0)) c.as_mut_slice-2.ensures.value)
    (λ s. lent_at false d.waiting _ _ c.as_mut_slice-3.ensures.value c.set_marks.auto.marks s ∙ c.set_marks.ensures s
    ∙ ap (λ (xs : List Bool). cond (inside (8 * b) (8 * b + 8) s) true (get_or xs s false)) c.as_mut_slice-3.ensures.value)
    (none_waits d.waiting.items b c.requires.1)
