-- The verbs: how each is written, and how many fields a line with it has.
use Rattle.std.specs.Prelude.{ℕ, cond, List, [], ◌∷◌, Some, None, codes, Option}
use Rattle.std.specs.Str.{bytes_eq}
use Rattle.commands.specs.declared.verb.Verb.{Verb}
use Rattle.commands.specs.declared.verb.Verb.TheVariants.{Format, Mount, Begin, Commit, Abandon, Checkpoint, Close, Clear, Show, Mast, Tile, Restart}

-- how a verb is written
abbrev pub spelling : Verb → List ℕ
spelling Format = codes "format"
spelling Mount = codes "mount"
spelling Begin = codes "begin"
spelling Commit = codes "commit"
spelling Abandon = codes "abandon"
spelling Checkpoint = codes "checkpoint"
spelling Close = codes "close"
spelling Clear = codes "clear"
spelling Show = codes "show"
spelling Mast = codes "mast"
spelling Tile = codes "tile"
spelling Restart = codes "restart"

-- how many fields a line with the verb has, the verb among them
abbrev pub width : Verb → ℕ
width Format = 1
width Mount = 1
width Begin = 1
width Commit = 1
width Abandon = 1
width Checkpoint = 1
width Close = 1
width Clear = 2
width Show = 2
width Mast = 4
width Tile = 6
width Restart = 4

-- all verbs
abbrev pub verbs : List Verb
verbs = Format ∷ Mount ∷ Begin ∷ Commit ∷ Abandon ∷ Checkpoint ∷ Close ∷ Clear ∷ Show ∷ Mast ∷ Tile ∷ Restart ∷ []

-- the first of some verbs that is written so
abbrev pub written_so : List ℕ → List Verb → Option Verb
written_so field [] = None
written_so field (v ∷ vs) = cond (bytes_eq field (spelling v)) (Some v) (written_so field vs)

-- the verb that a field writes, or none
unfoldable pub verb_of : List ℕ → Option Verb
verb_of field = written_so field verbs
