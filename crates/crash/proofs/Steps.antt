-- What one act, performed or refused, and a restart do to a piece. Assumes nothing.
use Rattle.std.proofs.Common.{◌≡◌, ℕ, ◌/◌, ◌%◌, Bool, true, false, cond, [], ◌∷◌, Some, None, Ok, Err, Result, sym, refl, ap, ◌∙◌, subst, inl, inr, arith, eq-eqb}
use Rattle.refusal.specs.declared.reason.Refusal.{Refusal}
use Rattle.refusal.specs.declared.reason.Refusal.TheVariants.{Beyond, Unsettled, Dark}
use Rattle.device.specs.Pieces.{Piece, settled, unsettled, settled_value, present_value, is_unsettled, MaySettle, ComesBack}
use Rattle.device.specs.Devices.{Meaning, Rules, darkened, refusal_of, Refuses, Acted}
use Rattle.device.specs.Words.{Store, words_of, fenced_word, nvm_rules}
use Rattle.device.specs.Sectors.{Write, sector_of, sectors_of, disk_rules}
use Rattle.crash.specs.Acts.{RanOn, Calmer}
use Rattle.crash.specs.Keeping.{Tame, nvm_keeps, disk_keeps}
use Rattle.crash.specs.Narrow.{FenceSettles, SyncSettles, StoreShows, WriteShows, SettlingIsDone, NothingElseMoves, RefusalsMoveNothing, SizeStays, DarkStaysDark, RestartSettles}
use Rattle.crash.proofs.Runs.{performed_one, stopped_one}
use Rattle.crash.proofs.Tame.{calmer_self, nvm_is_tame, disk_is_tame}

-- pieces alone
module _ {Mark Value : Type 0} where
  pub may_present : {c d : Piece Mark Value} → MaySettle c d → present_value d ≡ present_value c
  may_present (inl e) = ap present_value e
  may_present (inr e) = ap present_value e

  -- what has settled besides is calmer
  pub may_calmer : (c d : Piece Mark Value) → MaySettle c d → Calmer c d
  may_calmer c d (inl e) = subst (Calmer c) (sym e) (calmer_self c)
  may_calmer c d (inr e) = subst (Calmer c) (sym e) refl

  pub may_settled : (v : Value) {c d : Piece Mark Value} → c ≡ settled v → MaySettle c d → d ≡ settled v
  may_settled v e (inl h) = h ∙ e
  may_settled v e (inr h) = h ∙ ap (λ x. settled (present_value x)) e

  pub settled_is : (c : Piece Mark Value) → is_unsettled c ≡ false → c ≡ settled (present_value c)
  settled_is (settled v) e = refl
  settled_is (unsettled k s p) e = let z : ◌≡◌ {A = ℕ} 0 1 = cc in absurd (omega arith)

  pub back_settled : (v : Value) {c d : Piece Mark Value} → c ≡ settled v → ComesBack c d → d ≡ settled v
  back_settled v e (inl h) = h ∙ ap (λ x. settled (settled_value x)) e
  back_settled v e (inr h) = h ∙ ap (λ x. settled (present_value x)) e

  pub back_rests : (c d : Piece Mark Value) → ComesBack c d → d ≡ settled (present_value d)
  back_rests c d (inl h) = h ∙ ap (λ x. settled (present_value x)) (sym h)
  back_rests c d (inr h) = h ∙ ap (λ x. settled (present_value x)) (sym h)

pub restart_settles : (Mark Value : Type 0) → RestartSettles Mark Value
restart_settles Mark Value m n r i = back_rests (m.piece i) (n.piece i) (r.pieces i)

-- a dark device is itself, darkened
pub darkened_is : {Mark Value : Type 0} (m : Meaning Mark Value) → m.dark ≡ true → m ≡ darkened m
darkened_is {Mark} {Value} m e = ap (λ (d : Bool). let r : Meaning Mark Value = record { size = m.size; dark = d; piece = m.piece } in r) e

module _ {Act Mark Value : Type 0} (rules : Rules Act Mark Value) where
  pub settling_is_done : SettlingIsDone rules
  settling_is_done m n a s i e = let h = settled_is (rules.makes a i (m.piece i)) e in may_settled _ h (s.pieces i) ∙ sym h

  pub nothing_else_moves : (keeps : Act → ℕ → Value → Value) → Tame rules keeps → NothingElseMoves rules keeps
  nothing_else_moves keeps tame m n a s i = may_present (s.pieces i) ∙ tame.present a i (m.piece i)

  pub refusals_move_nothing : RefusalsMoveNothing rules
  refusals_move_nothing m n a e (inl (q, h)) i = ap (λ (k : Meaning Mark Value). k.piece i) h
  refusals_move_nothing m n a e (inr (q, d, h)) i = ap (λ (k : Meaning Mark Value). k.piece i) h

  pub refusals_keep_size : (m n : Meaning Mark Value) (a : Act) (e : Refusal) → Refuses rules m a e n → n.size ≡ m.size
  refusals_keep_size m n a e (inl (q, h)) = ap (λ (k : Meaning Mark Value). k.size) h
  refusals_keep_size m n a e (inr (q, d, h)) = ap (λ (k : Meaning Mark Value). k.size) h

  pub size_stays : SizeStays rules
  size_stays m n a (Ok u) s = s.size
  size_stays m n a (Err e) s = refusals_keep_size m n a e s

  dark_refusal : (m : Meaning Mark Value) (a : Act) → m.dark ≡ true → refusal_of rules m a ≡ Some Dark
  dark_refusal m a e = ap (λ d. cond d (Some Dark) (cond (rules.beyond m.size a) (Some Beyond) (cond (rules.blocked m.piece a) (Some Unsettled) None))) e

  pub dark_stays_dark : DarkStaysDark rules
  dark_stays_dark m n a (Ok u) e s = let h = dark_refusal m a e in let k = s.allowed in let z : ◌≡◌ {A = ℕ} 0 1 = cc in absurd (omega arith)
  dark_stays_dark m n a (Err x) e (inl (q, h)) = let k = dark_refusal m a e in let z : x ≡ Dark = cc in (ap Err z, h)
  dark_stays_dark m n a (Err x) e (inr (q, d, h)) = let k = dark_refusal m a e in let z : ◌≡◌ {A = ℕ} 0 1 = cc in absurd (omega arith)

  -- what a call of one act promises
  pub ran_one : (m n : Meaning Mark Value) (a : Act) (r : Result (Unit {0}) Refusal) → Acted rules m a r n → RanOn rules m (a ∷ []) r n
  ran_one m n a (Ok u) s = performed_one s
  ran_one m n a (Err e) s = stopped_one s

  -- an act that is neither beyond the size nor blocked is refused for darkness alone
  pub only_dark : (m n : Meaning Mark Value) (a : Act) (e : Refusal) → rules.beyond m.size a ≡ false → rules.blocked m.piece a ≡ false
      → Refuses rules m a e n → (e ≡ Dark) × (n ≡ darkened m)
  only_dark m n a e h k (inr (q, d, i)) = (d, i)
  only_dark m n a e h k (inl (q, i)) = by_power m.dark refl
    where
      by_power : (d : Bool) → m.dark ≡ d → (e ≡ Dark) × (n ≡ darkened m)
      by_power true p = (grind arith, i ∙ darkened_is m p)
      by_power false p = absurd (grind arith)

pub fence_settles : FenceSettles
fence_settles m n s w old new e = may_settled new (ap fenced_word e) (s.pieces w)

pub sync_settles : SyncSettles
sync_settles m n s i = may_settled (sectors_of m i) refl (s.pieces i)

pub store_shows : StoreShows
store_shows m n x v s = nothing_else_moves nvm_rules nvm_keeps nvm_is_tame m n (Store x v) s x ∙ ap (λ t. cond t v (words_of m x)) (eq-eqb x x refl)

pub write_shows : WriteShows
write_shows m n b words t s e =
    nothing_else_moves disk_rules disk_keeps disk_is_tame m n (Write b words) t s ∙ ap (λ t. cond t (sector_of words (s % 8)) (sectors_of m s)) (eq-eqb (s / 8) b e)
