-- What a desk holds. Assumes nothing.
use Rattle.std.specs.Prelude.{ℕ, List, replicate, vec_items, slice_index, slice_set}
use Rattle.ringlaws.specs.TxnInfo.{Transaction}
use Rattle.desk.specs.declared.ring_desk.RingDesk.{RingDesk}

-- the words of the ring's memory, and the settings that wait to be committed
abbrev pub image_of : RingDesk → List ℕ
image_of d = vec_items d.image

abbrev pub waiting_of : RingDesk → Transaction
waiting_of d = vec_items d.waiting

-- an empty ring: head and tail at place 30, so that the first transaction wraps
abbrev pub empty_image : List ℕ
empty_image = slice_set (slice_set (replicate 1056 0) 8 30) 16 30

-- where the ring of an image begins and ends
abbrev pub head_in : List ℕ → ℕ
head_in image = slice_index image 8

abbrev pub tail_in : List ℕ → ℕ
tail_in image = slice_index image 16
