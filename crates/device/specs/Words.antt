-- A non-volatile memory (NVM): words of 64 bits, lines of 8 words, units of 32 words; its size counts units. Assumes nothing.
use Rattle.std.specs.Prelude.{ℕ, ◌*◌, ◌/◌, Bool, false, cond, Ok, Err, Result, ◌==◌, nat_le}
use Rattle.refusal.specs.declared.reason.Refusal.{Refusal}
use Rattle.refusal.specs.declared.reason.Refusal.TheVariants.{Beyond, Dark}
use Rattle.device.specs.Pieces.{Piece, settled, unsettled, settled_value, present_value, is_unsettled}
use Rattle.device.specs.Devices.{Meaning, Rules}

-- an unsettled word waits for a flush of its line, or is flushed and waits for a fence
pub data WordMark : Type 0 where
  waiting flushed : WordMark

abbrev pub Word : Type 0
Word = Piece WordMark ℕ

abbrev pub NvmMeaning : Type 0
NvmMeaning = Meaning WordMark ℕ

pub data NvmAct : Type 0 where
  Store : ℕ → ℕ → NvmAct
  Flush : ℕ → NvmAct
  Fence : NvmAct

-- a flush of its line turns a waiting word flushed
abbrev pub flushed_word : Word → Word
flushed_word (settled v) = settled v
flushed_word (unsettled m s p) = unsettled flushed s p

-- a fence settles a flushed word
abbrev pub fenced_word : Word → Word
fenced_word (settled v) = settled v
fenced_word (unsettled waiting s p) = unsettled waiting s p
fenced_word (unsettled flushed s p) = settled p

-- what an act makes of the word w: a store of word x gives it a new present value and makes it waiting
abbrev pub nvm_makes : NvmAct → ℕ → Word → Word
nvm_makes (Store x v) w c = cond (w == x) (unsettled waiting (settled_value c) v) c
nvm_makes (Flush l) w c = cond (w / 8 == l) (flushed_word c) c
nvm_makes Fence w c = fenced_word c

abbrev pub nvm_beyond : ℕ → NvmAct → Bool
nvm_beyond units (Store x v) = nat_le (32 * units) x
nvm_beyond units (Flush l) = nat_le (4 * units) l
nvm_beyond units Fence = false

-- a store needs a settled word
abbrev pub nvm_blocked : (ℕ → Word) → NvmAct → Bool
nvm_blocked word (Store x v) = is_unsettled (word x)
nvm_blocked word (Flush l) = false
nvm_blocked word Fence = false

abbrev pub nvm_rules : Rules NvmAct WordMark ℕ
nvm_rules = record { beyond = nvm_beyond; blocked = nvm_blocked; makes = nvm_makes }

-- the present contents, word by word
abbrev pub words_of : NvmMeaning → ℕ → ℕ
words_of m w = present_value (m.piece w)

-- what a load answers
abbrev pub loads : NvmMeaning → ℕ → Result ℕ Refusal
loads m w = cond m.dark (Err Dark) (cond (nat_le (32 * m.size) w) (Err Beyond) (Ok (words_of m w)))
