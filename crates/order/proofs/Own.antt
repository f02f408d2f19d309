-- The contents that devices keep, seen by the sizes and the present contents of the devices themselves. Assumes
-- nothing.
use Rattle.std.proofs.Common.{◌≡◌, ℕ, ◌-◌, List, sym, refl, ap, subst, arith}
use Rattle.device.specs.Pieces.{present_value}
use Rattle.device.specs.Words.{NvmMeaning, words_of}
use Rattle.device.specs.Sectors.{DiskMeaning, sectors_of}
use Rattle.crash.specs.Acts.{Rests}
use Rattle.crash.specs.Pair.{Pair}
use Rattle.ringlaws.specs.Layout.{Contents, head_of, tail_of}
use Rattle.ringlaws.specs.TxnInfo.{Transaction}
use Rattle.ringlaws.specs.Spells.{Spells}
use Rattle.ringlaws.proofs.Back.{sound_exactly_if_spelled}
use Rattle.calls.specs.Table.{ring_of, transactions_of, table}
use Rattle.calllaws.specs.Holds.{Ready, Holds, Keeps}

-- settled contents are the present ones
pub present_words : (c : Contents) (m : NvmMeaning) → Rests c m → words_of m ≡ c
present_words c m h = λ i w. ap present_value (h w) i

pub present_sectors : (e : ℕ → List ℕ) (m : DiskMeaning) → Rests e m → sectors_of m ≡ e
present_sectors e m h = λ i s. ap present_value (h s) i

-- a pair's own numbers and contents
abbrev pub own_places : Pair → ℕ
own_places d = d.nvm.size - 1

abbrev pub own_blocks : Pair → ℕ
own_blocks d = d.disk.size

abbrev pub own_words : Pair → Contents
own_words d = words_of d.nvm

abbrev pub own_sectors : Pair → ℕ → List ℕ
own_sectors d = sectors_of d.disk

pub record Own (d : Pair) (ts : List Transaction) (units : ℕ → List ℕ) : Type 0 where
  pub ready : Ready (own_places d) (own_blocks d) (own_words d) (own_sectors d) d
  pub holds : Holds (own_places d) (own_blocks d) (own_words d) (own_sectors d) ts units

module _ (N B : ℕ) (d : Pair) (ts : List Transaction) (units : ℕ → List ℕ) (k : Keeps N B d ts units) where
  pub places_is : own_places d ≡ N
  places_is = let h = k.ready.units in omega arith

  pub blocks_is : own_blocks d ≡ B
  blocks_is = k.ready.blocks

  own_ready : Ready (own_places d) (own_blocks d) (own_words d) (own_sectors d) d
  own_ready =
      subst (λ (n : ℕ). Ready n (own_blocks d) (own_words d) (own_sectors d) d) (sym places_is)
      (subst (λ (b : ℕ). Ready N b (own_words d) (own_sectors d) d) (sym blocks_is)
      (subst (λ (c : Contents). Ready N B c (own_sectors d) d) (sym (present_words k.words d.nvm k.ready.rests.nvm))
      (subst (λ (e : ℕ → List ℕ). Ready N B k.words e d) (sym (present_sectors k.sectors d.disk k.ready.rests.disk)) k.ready)))

  own_holds : Holds (own_places d) (own_blocks d) (own_words d) (own_sectors d) ts units
  own_holds =
      subst (λ (n : ℕ). Holds n (own_blocks d) (own_words d) (own_sectors d) ts units) (sym places_is)
      (subst (λ (b : ℕ). Holds N b (own_words d) (own_sectors d) ts units) (sym blocks_is)
      (subst (λ (c : Contents). Holds N B c (own_sectors d) ts units) (sym (present_words k.words d.nvm k.ready.rests.nvm))
      (subst (λ (e : ℕ → List ℕ). Holds N B k.words e ts units) (sym (present_sectors k.sectors d.disk k.ready.rests.disk)) k.holds)))

  pub own : Own d ts units
  own = record { ready = own_ready; holds = own_holds }

-- the ring of a pair that keeps these transactions is these
pub ring_is : (d : Pair) (ts : List Transaction) (units : ℕ → List ℕ) → Own d ts units → ring_of (own_places d) (own_blocks d) (own_words d) ≡ ts
ring_is d ts units o =
    let h = o.holds in
    ap transactions_of ((sound_exactly_if_spelled (own_places d) (own_blocks d) (own_words d) (head_of (own_words d)) (tail_of (own_words d)) h.head h.tail ts).1 h.spells)

-- the ring and the table that a pair has by its own contents
abbrev pub own_ring : Pair → List Transaction
own_ring d = ring_of (own_places d) (own_blocks d) (own_words d)

abbrev pub own_table : Pair → ℕ → List ℕ
own_table d = table (own_ring d) (own_sectors d)

-- a pair that keeps some ring and units, by whatever names, keeps its own
pub keeps_own : (N B : ℕ) (d : Pair) (ts : List Transaction) (units : ℕ → List ℕ) → Keeps N B d ts units → Keeps (own_places d) (own_blocks d) d (own_ring d) (own_table d)
keeps_own N B d ts units k =
    let o = own N B d ts units k in
    let h = o.holds in
    record {
      words = own_words d;
      sectors = own_sectors d;
      ready = o.ready;
      holds = record {
        mark = h.mark;
        places = h.places;
        blocks = h.blocks;
        head = h.head;
        tail = h.tail;
        spells = subst (Spells (own_places d) (own_blocks d) (own_words d)) (sym (ring_is d ts units o)) h.spells;
        same = λ r lt. refl;
      };
    }
