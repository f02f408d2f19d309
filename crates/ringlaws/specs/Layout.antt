-- Where everything lies: unit 0, the ring after it, and the homes of the records on the disk. The contents of a device are a
-- function from word number to word; N is the number of ring places, B that of the disk's blocks. Assumes nothing.
use Rattle.std.specs.Prelude.{ℕ, ◌+◌, ◌-◌, ◌*◌, ◌/◌, ◌%◌, Bool, ◌&&◌, List, map, nat_le, nat_lt}
use Rattle.std.specs.List.{range_with_len}

abbrev pub Contents : Type 0
Contents = ℕ → ℕ

-- Unit 0: the ground mark, which only a finished format leaves, in word 0; N and B; head and tail.
abbrev pub ground_mark : ℕ
ground_mark = 0x3C91E07D58A2B46F

abbrev pub ground_word : ℕ
ground_word = 0

abbrev pub places_word : ℕ
places_word = 1

abbrev pub blocks_word : ℕ
blocks_word = 2

abbrev pub head_word : ℕ
head_word = 8

abbrev pub tail_word : ℕ
tail_word = 16

abbrev pub head_of : Contents → ℕ
head_of c = c head_word

abbrev pub tail_of : Contents → ℕ
tail_of c = c tail_word

-- a ring has 32 to 255 places, a disk 1 to 4,096 blocks
abbrev pub least_places : ℕ
least_places = 32

abbrev pub most_places : ℕ
most_places = 255

abbrev pub most_blocks : ℕ
most_blocks = 4096

-- head and tail are places of a ring of at most 255
abbrev pub is_ring : ℕ → ℕ → ℕ → Bool
is_ring N head tail = nat_le N most_places && (nat_lt head N && nat_lt tail N)

-- the 32 words of unit u
unfoldable pub unit_at : Contents → ℕ → List ℕ
unit_at c u = map (λ i. c (32 * u + i)) (range_with_len 0 32)

-- ring place i is unit i + 1
abbrev pub place_at : Contents → ℕ → List ℕ
place_at c i = unit_at c (i + 1)

-- the place k places after a place
abbrev pub after : ℕ → ℕ → ℕ → ℕ
after N place k = (place + k) % N

-- the place k places before a place, k at most N; whatever steps back goes by this
abbrev pub before : ℕ → ℕ → ℕ → ℕ
before N place k = ((place + N) - k) % N

-- the used places lie from the head on, as many as there are between head and tail
abbrev pub used_between : ℕ → ℕ → ℕ → ℕ
used_between N head tail = ((tail + N) - head) % N

abbrev pub used : ℕ → Contents → ℕ
used N c = used_between N (head_of c) (tail_of c)

-- the first n places from a place on, as units
unfoldable pub units_from : ℕ → Contents → ℕ → ℕ → List (List ℕ)
units_from N c place n = map (λ k. place_at c (after N place k)) (range_with_len 0 n)

-- the records of a disk of B blocks have the numbers below this
abbrev pub records_of : ℕ → ℕ
records_of B = 16 * B

-- record r has its home in this block, and there from this word on
abbrev pub home_block : ℕ → ℕ
home_block r = r / 16

abbrev pub home_word : ℕ → ℕ
home_word r = 32 * (r % 16)
