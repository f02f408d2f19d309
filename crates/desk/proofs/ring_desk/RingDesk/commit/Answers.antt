use Rattle.std.proofs.Common.{sym, ◌∙◌}
use Rattle.std.proofs.lemmas.Bool.{cond-true, cond-false}
use Rattle.desk.proofs.Lent.{lent_appends}
use Rattle.desk.proofs.ring_desk.RingDesk.commit.Goals as goal

pub returns-then-is_some : goal.returns-then-is_some
returns-then-is_some c = record {
  image = lent_appends 32 _ _ c.as_slice.ensures.value c.args.self.now.image _ _ c.as_mut_slice.ensures.value c.append-done.auto.image _ c.append-done.ensures;
  waiting = c.clear.ensures.items ∙ sym (cond-true _ _ _ (sym c.if-is_some.ensures));
}

pub returns-else-is_some : goal.returns-else-is_some
returns-else-is_some c = record {
  image = lent_appends 32 _ _ c.as_slice.ensures.value c.args.self.now.image _ _ c.as_mut_slice.ensures.value c.append-done.auto.image _ c.append-done.ensures;
  waiting = sym (cond-false _ _ _ (sym c.if-is_some.ensures));
}
