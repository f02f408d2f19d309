-- What the commands read of a line is what an order asks.
use Rattle.std.proofs.Common.{◌≡◌, ℕ, List, [], ℤ, Some, None, Option, refl, ap, ◌∙◌}
use Rattle.std.specs.Option.{option_map}
use Rattle.lines.specs.Fields.{field_at, word_at, level_at}
use Rattle.commands.specs.declared.command.Order.{Order}
use Rattle.commands.specs.Commands.{ordered, format, mount, begin, commit, abandon, checkpoint, close, clear, show, set, restart}
use Rattle.commands.specs.Commands as commands
use Rattle.workbench.specs.Orders.{Asked, tile, mast, asked_of, asked, given, tile_in, mast_in}

-- a command that sets a record, as an order; any other stands for no order, and is not read as one
abbrev turned : commands.Asked → Asked
turned (set r w) = asked_of r w
turned format = mast 0 0 []
turned mount = mast 0 0 []
turned begin = mast 0 0 []
turned commit = mast 0 0 []
turned abandon = mast 0 0 []
turned checkpoint = mast 0 0 []
turned close = mast 0 0 []
turned (clear r) = mast 0 0 []
turned (show r) = mast 0 0 []
turned (restart contents nvmActs diskActs) = mast 0 0 []

order_turned : (o : Option Order) → option_map asked o ≡ option_map turned (option_map ordered o)
order_turned None = refl
order_turned (Some o) = refl

-- what is given where each field was read
five : (a b c d : Option ℕ) (e : Option ℤ) → option_map turned (commands.given a (λ r. commands.given b (λ column. commands.given c (λ row. commands.given d (λ plan. commands.given e (λ level. Some (set r (commands.tile column row plan level))))))))
    ≡ given a (λ r. given b (λ column. given c (λ row. given d (λ plan. given e (λ level. Some (tile r column row plan level))))))
five None b c d e = refl
five (Some r) None c d e = refl
five (Some r) (Some column) None d e = refl
five (Some r) (Some column) (Some row) None e = refl
five (Some r) (Some column) (Some row) (Some plan) None = refl
five (Some r) (Some column) (Some row) (Some plan) (Some level) = refl

two : (a b : Option ℕ) (name : List ℕ) → option_map turned (commands.given a (λ r. commands.given b (λ number. Some (set r (commands.mast number name)))))
    ≡ given a (λ r. given b (λ number. Some (mast r number name)))
two None b name = refl
two (Some r) None name = refl
two (Some r) (Some number) name = refl

pub tile_same : (fields : List (List ℕ)) (o : Option Order) → option_map ordered o ≡ commands.tile_in fields → option_map asked o ≡ tile_in fields
tile_same fields o h = order_turned o ∙ (ap (option_map turned) h ∙ five (word_at fields 1) (word_at fields 2) (word_at fields 3) (word_at fields 4) (level_at fields 5))

pub mast_same : (fields : List (List ℕ)) (o : Option Order) → option_map ordered o ≡ commands.mast_in fields → option_map asked o ≡ mast_in fields
mast_same fields o h = order_turned o ∙ (ap (option_map turned) h ∙ two (word_at fields 1) (word_at fields 2) (field_at fields 3))
