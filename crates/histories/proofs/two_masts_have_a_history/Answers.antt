use Rattle.std.proofs.Common.{◌≡◌, ℕ, [], ◌∷◌, refl, ap, arith}
use Rattle.mast.specs.declared.record.Mast.{Mast}
use Rattle.mast.specs.Names.{is_name, padded, short, padded_whole, padded_name, padded_after}
use Rattle.joined.specs.declared.record.Joined.TheVariants.{Mast as aMast}
use Rattle.histories.proofs.two_masts_have_a_history.Goals as goal

-- the mast with this number whose name is the letter A
abbrev mast : ℕ → Mast
mast n = record {
  number = n;
  size = 1;
  bytes = padded (0x41 ∷ []);
  whole = padded_whole (0x41 ∷ []) (short (0x41 ∷ []) refl);
  most = short (0x41 ∷ []) refl;
  named = ap is_name (padded_name (0x41 ∷ []));
  padded = padded_after (0x41 ∷ []);
}

apart : (a b : Mast) → a.number ≡ 1 → b.number ≡ 2 → aMast a ≡ aMast b → ⊥
apart a b p q e = let same : a ≡ b = cc in let n : a.number ≡ b.number = ap (λ (m : Mast). m.number) same in omega arith

pub returns : goal.returns
returns c = record {
  one = mast 1;
  two = mast 2;
  differ = apart (mast 1) (mast 2) refl refl;
  history = c.a_history_happens.ensures (aMast (mast 1)) (aMast (mast 2));
}
