-- What the writes of a checkpoint make of the homes and of the table. Assumes nothing.
use Rattle.std.proofs.Common.{◌≡◌, ℕ, ◌/◌, ◌%◌, ◌<◌, Bool, true, false, cond, ◌&&◌, ltb, ◌⊎◌, List, length, sym, refl, ap, ◌∙◌, inl, inr, arith}
use Rattle.std.proofs.lemmas.Bool.Decides.{nat_tests}
use Rattle.device.specs.Sectors.{sector_of}
use Rattle.crash.specs.Acts.{Blend}
use Rattle.crash.specs.Keeping.{disk_keeps, kept}
use Rattle.ringlaws.specs.Layout.{records_of, home_block}
use Rattle.ringlaws.specs.TxnInfo.{Transaction}
use Rattle.ringlaws.specs.Spells.{AllFair}
use Rattle.calls.specs.Table.{home_unit, table, table_block, is_named}
use Rattle.calls.specs.Acts.{writing_homes}
use Rattle.calllaws.proofs.Overlay.{laid_long, laid_again, unnamed_laid}
use Rattle.calllaws.proofs.Homes.{home_long, home_near, home_written}
use Rattle.calllaws.proofs.Writes.{writing_kept}

-- the sectors after the homes were written
abbrev pub homes_written : ℕ → List Transaction → (ℕ → List ℕ) → ℕ → List ℕ
homes_written B ts e s = kept disk_keeps (writing_homes B ts e) s (e s)

module _ (B : ℕ) (ts : List Transaction) (e : ℕ → List ℕ) (fair : AllFair B ts) where
  table_long : (r : ℕ) → length (table ts e r) ≡ 32
  table_long r = laid_long B ts (home_unit e) fair (home_long e) r

  -- a sector after the writes, by whether its block is written
  new_sector : (r : ℕ) (t : Bool) → ltb (home_block r) B && is_named ts (home_block r) ≡ t
      → homes_written B ts e (r / 2) ≡ cond t (sector_of (table_block (table ts e) (home_block r)) (r / 2 % 8)) (e (r / 2))
  new_sector r t h =
      let q : r / 2 / 8 ≡ r / 16 = omega arith in
      writing_kept (is_named ts) (table_block (table ts e)) B (r / 2) (e (r / 2))
      ∙ ap (λ b. cond (ltb b B && is_named ts b) (sector_of (table_block (table ts e) b) (r / 2 % 8)) (e (r / 2))) q
      ∙ ap (λ x. cond x (sector_of (table_block (table ts e) (home_block r)) (r / 2 % 8)) (e (r / 2))) h

  -- each home is the old one, or the table's unit
  new_home : (r : ℕ) (t : Bool) → ltb (home_block r) B && is_named ts (home_block r) ≡ t
      → home_unit (homes_written B ts e) r ≡ cond t (table ts e r) (home_unit e r)
  new_home r true h = home_written (table ts e) (homes_written B ts e) r (table_long r) (new_sector r true h)
  new_home r false h = home_near e (homes_written B ts e) r (new_sector r false h)

  -- on a disk whose sectors are the old or the new ones the ring gives the same table
  pub blended_table : (x : ℕ → List ℕ) → Blend e (homes_written B ts e) x → (r : ℕ) → table ts x r ≡ table ts e r
  blended_table x blend r = laid_again ts (home_unit e) (home_unit x) r (by_sector (blend (r / 2)))
    where
      by_test : (t : Bool) → ltb (home_block r) B && is_named ts (home_block r) ≡ t
          → (home_unit (homes_written B ts e) r ≡ home_unit e r) ⊎ (home_unit (homes_written B ts e) r ≡ table ts e r)
      by_test true h = inr (new_home r true h)
      by_test false h = inl (new_home r false h)

      moved : {u v : List ℕ} → home_unit x r ≡ home_unit (homes_written B ts e) r
          → (home_unit (homes_written B ts e) r ≡ u) ⊎ (home_unit (homes_written B ts e) r ≡ v) → (home_unit x r ≡ u) ⊎ (home_unit x r ≡ v)
      moved q (inl h) = inl (q ∙ h)
      moved q (inr h) = inr (q ∙ h)

      by_sector : (x (r / 2) ≡ e (r / 2)) ⊎ (x (r / 2) ≡ homes_written B ts e (r / 2)) → (home_unit x r ≡ home_unit e r) ⊎ (home_unit x r ≡ table ts e r)
      by_sector (inl h) = inl (home_near e x r h)
      by_sector (inr h) = moved (home_near (homes_written B ts e) x r h) (by_test (ltb (home_block r) B && is_named ts (home_block r)) refl)

  -- the disk alone has the table after the writes
  pub written_table : (r : ℕ) → r < records_of B → home_unit (homes_written B ts e) r ≡ table ts e r
  written_table r lt = by_name (is_named ts (home_block r)) refl
    where
      inside : ltb (home_block r) B ≡ true
      inside = grind (arith, nat_tests)

      by_name : (t : Bool) → is_named ts (home_block r) ≡ t → home_unit (homes_written B ts e) r ≡ table ts e r
      by_name true h = new_home r true (ap (λ t. t && is_named ts (home_block r)) inside ∙ h)
      by_name false h = new_home r false (ap (λ t. t && is_named ts (home_block r)) inside ∙ h) ∙ sym (unnamed_laid ts (home_unit e) r h)
