-- What the memories are: their meaning with the acts that are left, and the unsettled lines by age. Assumes nothing.
use Rattle.std.specs.Prelude.{◌≡◌, ℕ, false, List, Option}
use Rattle.device.specs.Words.{NvmMeaning, WordMark}
use Rattle.simulated.specs.Natures.{Simulated}
use Rattle.nvm_words.specs.declared.mark.Mark.{Mark}
use Rattle.nvm_words.specs.Meant.{simulated_nvm, unsettled_lines}
use Rattle.nvm_words.specs.Made.{units_in, made_word, made_lines}
use Rattle.nvms.specs.declared.devices.SimulatedNvm.{SimulatedNvm}
use Rattle.nvms.specs.Natures.{surplus_settled, surplus_left}

abbrev pub nvm_state : {N : Type 0} {g : _} → SimulatedNvm N g → Simulated WordMark ℕ
nvm_state n = simulated_nvm n.words

abbrev pub nvm_meaning : {N : Type 0} {g : _} → SimulatedNvm N g → NvmMeaning
nvm_meaning n = (nvm_state n).meaning

-- the same of the patient memory
abbrev pub patient_state : {N : Type 0} {g : _} → SimulatedNvm N g → Simulated WordMark ℕ
patient_state n = nvm_state n

abbrev pub patient_meaning : {N : Type 0} {g : _} → SimulatedNvm N g → NvmMeaning
patient_meaning n = nvm_meaning n

-- the lines that hold an unsettled word, the one that became so earliest first
abbrev pub lines_by_age : {N : Type 0} {g : _} → SimulatedNvm N g → List ℕ
lines_by_age n = unsettled_lines n.words

-- made of lists: what they say, but of more unsettled lines than the limit allows the lowest settle at once; ages ascend
pub record NvmMade {N : Type 0} {g : _} (limit : Option ℕ) (ss ps : List ℕ) (ms : List Mark) (acts : ℕ) (n : SimulatedNvm N g) : Type 0 where
  pub state : nvm_state n ≡ record {
    meaning = record { size = units_in ss ps ms; dark = false; piece = λ w. surplus_settled limit (made_lines ss ps ms) w (made_word ss ps ms w) };
    left = acts;
  }
  pub lines : lines_by_age n ≡ surplus_left limit (made_lines ss ps ms)
