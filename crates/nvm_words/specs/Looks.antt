-- What tests and tools see of a memory: no value and no mark beyond its size. Assumes nothing.
use Rattle.std.specs.Prelude.{ℕ, ◌*◌, cond, Some, None, Option, nat_le}
use Rattle.device.specs.Pieces.{settled_value, present_value}
use Rattle.device.specs.Words.{Word, NvmMeaning}
use Rattle.nvm_words.specs.declared.mark.Mark.{Mark}
use Rattle.nvm_words.specs.Marks.{mark_of}

-- f of the word w, if there is such a word
abbrev pub look_at : {X : Type 0} → (Word → X) → NvmMeaning → ℕ → Option X
look_at f m w = cond (nat_le (32 * m.size) w) None (Some (f (m.piece w)))

abbrev pub present_at : NvmMeaning → ℕ → Option ℕ
present_at m w = look_at present_value m w

abbrev pub settled_at : NvmMeaning → ℕ → Option ℕ
settled_at m w = look_at settled_value m w

abbrev pub mark_at : NvmMeaning → ℕ → Option Mark
mark_at m w = look_at mark_of m w
