-- Both kinds of device keep what the crash laws rest on. Assumes nothing.
use Rattle.std.proofs.Common.{◌≡◌, ℕ, zero, suc, ◌+◌, ◌*◌, ◌/◌, ◌%◌, Bool, true, false, cond, ◌||◌, eqb, ◌⊎◌, sym, refl, ap, ◌∙◌, inl, inr, arith}
use Rattle.device.specs.Pieces.{Piece, settled, unsettled, settled_value, present_value, is_unsettled}
use Rattle.device.specs.Words.{waiting, flushed, Word, NvmAct, Store, Flush, Fence, flushed_word, fenced_word, nvm_makes, nvm_blocked}
use Rattle.device.specs.Sectors.{waits, Sector, DiskAct, Write, Sync, sector_of, disk_makes, any_below, disk_blocked}
use Rattle.crash.specs.Acts.{Calmer}
use Rattle.crash.specs.Keeping.{nvm_keeps, disk_keeps, NvmIsTame, DiskIsTame}

module _ {Mark Value : Type 0} where
  pub calmer_self : (c : Piece Mark Value) → Calmer c c
  calmer_self (settled v) = refl
  calmer_self (unsettled k s p) = (refl, refl)

  pub calmer_present : (c d : Piece Mark Value) → Calmer c d → present_value d ≡ present_value c
  calmer_present c (settled v) h = sym h
  calmer_present (settled x) (unsettled k s p) h = absurd h
  calmer_present (unsettled j r q) (unsettled k s p) (e, h) = sym h

  -- a piece that is calmer than a settled one is settled
  pub calmer_settled : (c d : Piece Mark Value) → Calmer c d → is_unsettled c ≡ false → d ≡ settled (present_value c)
  calmer_settled c (settled v) h e = ap settled (sym h)
  calmer_settled (settled x) (unsettled k s p) h e = absurd h
  calmer_settled (unsettled j r q) (unsettled k s p) h e = let z : ◌≡◌ {A = ℕ} 0 1 = cc in absurd (omega arith)

  pub calmer_quiet : (c d : Piece Mark Value) → Calmer c d → is_unsettled c ≡ false → is_unsettled d ≡ false
  calmer_quiet c d h e = ap is_unsettled (calmer_settled c d h e)

  -- what is stored over two pieces
  calmer_both : (t : Bool) (k : Mark) (v : Value) (c d : Piece Mark Value) → Calmer c d
      → Calmer (cond t (unsettled k (settled_value c) v) c) (cond t (unsettled k (settled_value d) v) d)
  calmer_both true k v c d h = (refl, refl)
  calmer_both false k v c d h = h

  kept_both : (t : Bool) (k : Mark) (v : Value) (c : Piece Mark Value) → present_value (cond t (unsettled k (settled_value c) v) c) ≡ cond t v (present_value c)
  kept_both true k v c = refl
  kept_both false k v c = refl

  old_both : (t : Bool) (k : Mark) (v : Value) (c : Piece Mark Value) → settled_value (cond t (unsettled k (settled_value c) v) c) ≡ settled_value c
  old_both true k v c = refl
  old_both false k v c = refl

-- the memory
flush_present : (t : Bool) (c : Word) → present_value (cond t (flushed_word c) c) ≡ present_value c
flush_present true (settled v) = refl
flush_present true (unsettled k s p) = refl
flush_present false c = refl

fence_present : (c : Word) → present_value (fenced_word c) ≡ present_value c
fence_present (settled v) = refl
fence_present (unsettled waiting s p) = refl
fence_present (unsettled flushed s p) = refl

nvm_present : (a : NvmAct) (w : ℕ) (c : Word) → present_value (nvm_makes a w c) ≡ nvm_keeps a w (present_value c)
nvm_present (Store x v) w c = kept_both (eqb w x) waiting v c
nvm_present (Flush l) w c = flush_present (eqb (w / 8) l) c
nvm_present Fence w c = fence_present c

flush_old : (t : Bool) (c : Word) → settled_value (cond t (flushed_word c) c) ≡ settled_value c
flush_old true (settled v) = refl
flush_old true (unsettled k s p) = refl
flush_old false c = refl

nvm_old : (a : NvmAct) (w : ℕ) (c : Word) → (settled_value (nvm_makes a w c) ≡ settled_value c) ⊎ (settled_value (nvm_makes a w c) ≡ present_value c)
nvm_old (Store x v) w c = inl (old_both (eqb w x) waiting v c)
nvm_old (Flush l) w c = inl (flush_old (eqb (w / 8) l) c)
nvm_old Fence w (settled v) = inl refl
nvm_old Fence w (unsettled waiting s p) = inl refl
nvm_old Fence w (unsettled flushed s p) = inr refl

flush_calmer : (t : Bool) (c d : Word) → Calmer c d → Calmer (cond t (flushed_word c) c) (cond t (flushed_word d) d)
flush_calmer false c d h = h
flush_calmer true c (settled v) h = flush_present true c ∙ h
flush_calmer true (settled x) (unsettled k s p) h = absurd h
flush_calmer true (unsettled j r q) (unsettled k s p) (e, h) = (refl, h)

mark_absurd : waiting ≡ flushed → ⊥
mark_absurd e = let z : ◌≡◌ {A = ℕ} 0 1 = cc in omega arith

fence_calmer : (c d : Word) → Calmer c d → Calmer (fenced_word c) (fenced_word d)
fence_calmer c (settled v) h = fence_present c ∙ h
fence_calmer (settled x) (unsettled k s p) h = absurd h
fence_calmer (unsettled waiting r q) (unsettled waiting s p) h = h
fence_calmer (unsettled flushed r q) (unsettled flushed s p) (e, h) = h
fence_calmer (unsettled waiting r q) (unsettled flushed s p) (e, h) = absurd (mark_absurd e)
fence_calmer (unsettled flushed r q) (unsettled waiting s p) (e, h) = absurd (mark_absurd (sym e))

nvm_calmer : (a : NvmAct) (w : ℕ) (c d : Word) → Calmer c d → Calmer (nvm_makes a w c) (nvm_makes a w d)
nvm_calmer (Store x v) w c d h = calmer_both (eqb w x) waiting v c d h
nvm_calmer (Flush l) w c d h = flush_calmer (eqb (w / 8) l) c d h
nvm_calmer Fence w c d h = fence_calmer c d h

nvm_opens : (a : NvmAct) (c d : ℕ → Word) → ((w : ℕ) → Calmer (c w) (d w)) → nvm_blocked c a ≡ false → nvm_blocked d a ≡ false
nvm_opens (Store x v) c d h e = calmer_quiet (c x) (d x) (h x) e
nvm_opens (Flush l) c d h e = refl
nvm_opens Fence c d h e = refl

pub nvm_is_tame : NvmIsTame
nvm_is_tame = record { present = nvm_present; old = nvm_old; calmer = nvm_calmer; opens = nvm_opens }

-- the disk
disk_present : (a : DiskAct) (s : ℕ) (c : Sector) → present_value (disk_makes a s c) ≡ disk_keeps a s (present_value c)
disk_present (Write b words) s c = kept_both (eqb (s / 8) b) waits (sector_of words (s % 8)) c
disk_present Sync s c = refl

disk_old : (a : DiskAct) (s : ℕ) (c : Sector) → (settled_value (disk_makes a s c) ≡ settled_value c) ⊎ (settled_value (disk_makes a s c) ≡ present_value c)
disk_old (Write b words) s c = inl (old_both (eqb (s / 8) b) waits (sector_of words (s % 8)) c)
disk_old Sync s c = inr refl

disk_calmer : (a : DiskAct) (s : ℕ) (c d : Sector) → Calmer c d → Calmer (disk_makes a s c) (disk_makes a s d)
disk_calmer (Write b words) s c d h = calmer_both (eqb (s / 8) b) waits (sector_of words (s % 8)) c d h
disk_calmer Sync s c d h = sym (calmer_present c d h)

or_false : (x y : Bool) → x || y ≡ false → (x ≡ false) × (y ≡ false)
or_false true y e = let z : ◌≡◌ {A = ℕ} 0 1 = cc in absurd (omega arith)
or_false false y e = (refl, e)

any_opens : (f g : ℕ → Bool) (n : ℕ) → ((k : ℕ) → f k ≡ false → g k ≡ false) → any_below f n ≡ false → any_below g n ≡ false
unfolding any_below
any_opens f g zero h e = refl
any_opens f g (suc n) h e =
    let (here, below) = or_false (f n) (any_below f n) e in
    ap (λ t. t || any_below g n) (h n here) ∙ any_opens f g n h below

disk_opens : (a : DiskAct) (c d : ℕ → Sector) → ((s : ℕ) → Calmer (c s) (d s)) → disk_blocked c a ≡ false → disk_blocked d a ≡ false
disk_opens (Write b words) c d h e =
    any_opens (λ k. is_unsettled (c (8 * b + k))) (λ k. is_unsettled (d (8 * b + k))) 8 (λ k. calmer_quiet (c (8 * b + k)) (d (8 * b + k)) (h (8 * b + k))) e
disk_opens Sync c d h e = refl

pub disk_is_tame : DiskIsTame
disk_is_tame = record { present = disk_present; old = disk_old; calmer = disk_calmer; opens = disk_opens }
