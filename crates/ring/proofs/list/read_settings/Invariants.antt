use Rattle.std.proofs.Common.{◌≡◌, take, vec_items}
use Rattle.ringlaws.specs.Layout.{Contents}
use Rattle.ringlaws.specs.Sound.{settings_at}
use Rattle.ring.specs.Sources.{Agrees}
use Rattle.ring.proofs.list.read_settings.Given as goal

abbrev pub invariant-loop-i : goal.invariant-loop-i
invariant-loop-i g l = (c : Contents) → Agrees (g.S.Source.reads l.source) c → vec_items l.settings ≡ settings_at l.places c l.first 0 (take l.i l.numbers)
