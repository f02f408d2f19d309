-- What the memories make of each word, by how many lines may hold unsettled words. With no limit a memory makes what the act
-- makes, and settles nothing besides. Assumes nothing.
use Rattle.std.specs.Prelude.{ℕ, ◌-◌, ◌/◌, Bool, false, cond, not, ◌&&◌, List, Some, None, Option, length, take, drop, filter, nat_le, slice_index}
use Rattle.device.specs.Pieces.{settled, present_value}
use Rattle.device.specs.Words.{Word, NvmAct, Store, Flush, Fence, nvm_makes}
use Rattle.simulated.specs.Lists.{member}
use Rattle.simulated.specs.Listing.{with_line, without_first}
use Rattle.nvm_words.specs.Meant.{is_unsettled_line, line_settled}

-- a store into the line l would make more unsettled lines than the limit allows
abbrev pub is_crowded : Option ℕ → List ℕ → ℕ → Bool
is_crowded None ls l = false
is_crowded (Some most) ls l = not (member l ls) && nat_le most (length ls)

-- then the line that became unsettled earliest settles first
abbrev pub room_made : Option ℕ → List ℕ → ℕ → ℕ → Word → Word
room_made limit ls l w c = cond (is_crowded limit ls l) (line_settled (slice_index ls 0) w c) c

abbrev pub room_for : Option ℕ → List ℕ → ℕ → List ℕ
room_for limit ls l = cond (is_crowded limit ls l) (without_first ls) ls

-- what a memory makes of the word w, if the lines `ls` are unsettled, the earliest first; with no limit what the act makes
abbrev pub limited_makes : Option ℕ → List ℕ → NvmAct → ℕ → Word → Word
limited_makes limit ls (Store x v) w c = nvm_makes (Store x v) w (room_made limit ls (x / 8) w c)
limited_makes limit ls (Flush l) w c = nvm_makes (Flush l) w c
limited_makes limit ls Fence w c = nvm_makes Fence w c

-- the lines that are unsettled after a performed act on these words; a line keeps its age while one of its words is unsettled
abbrev pub lines_after : Option ℕ → List ℕ → NvmAct → (ℕ → Word) → List ℕ
lines_after limit ls (Store x v) word = with_line (room_for limit ls (x / 8)) (x / 8)
lines_after limit ls (Flush l) word = ls
lines_after limit ls Fence word = filter (is_unsettled_line (λ w. nvm_makes Fence w (word w))) ls

-- of more lines than the limit allows the earliest settle, until no more are left
abbrev pub surplus_settled : Option ℕ → List ℕ → ℕ → Word → Word
surplus_settled None ls w c = c
surplus_settled (Some most) ls w c = cond (member (w / 8) (take (length ls - most) ls)) (settled (present_value c)) c

abbrev pub surplus_left : Option ℕ → List ℕ → List ℕ
surplus_left None ls = ls
surplus_left (Some most) ls = drop (length ls - most) ls
