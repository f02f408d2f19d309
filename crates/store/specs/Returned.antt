-- Which refusals of a commit hand the ticket back. Assumes nothing.
use Rattle.std.specs.Prelude.{Bool, ◌||◌, ◌==◌}
use Rattle.refusal.specs.declared.reason.Refusal.{Refusal}
use Rattle.refusal.specs.Numbers.{number_of}

-- 21, 23 and 33 do; all else spends it
abbrev pub hands_back : Refusal → Bool
hands_back e = number_of e == 21 || (number_of e == 23 || number_of e == 33)
