-- Steps of calls that act on the devices of a store. Assumes nothing.
use Rattle.std.proofs.Common.{◌≡◌, ℕ, ◌-◌, Bool, true, false, [], Ok, Err, Result, sym, refl, ap, subst}
use Rattle.std.proofs.lemmas.Bool.{cond-true, cond-false, or_from}
use Rattle.refusal.specs.declared.reason.Refusal.{Refusal}
use Rattle.refusal.specs.declared.reason.Refusal.TheVariants.{Dark, BadSize}
use Rattle.device.specs.Words.{NvmMeaning}
use Rattle.device.specs.Sectors.{DiskMeaning}
use Rattle.crash.specs.Runs.{done}
use Rattle.crash.specs.Pair.{Pair, both, is_dark, RanPair}
use Rattle.ringlaws.specs.TxnInfo.{Transaction}
use Rattle.calls.specs.declared.state.State.TheVariants.{Unmounted}
use Rattle.calls.specs.declared.call.Call.{Call}
use Rattle.calls.specs.declared.call.Call.TheVariants.{Format}
use Rattle.calls.specs.declared.answer.Answer.{Answer}
use Rattle.calls.specs.declared.answer.Answer.TheVariants.{Refused, Done}
use Rattle.calls.specs.Acts.{format_acts}
use Rattle.calls.specs.Plans.{Machine, Kind, Plan, fit_sizes, refusing, plan_of}
use Rattle.calls.specs.Steps.{Went, WentDark, Step, was_dark, went, went_dark}
use Rattle.calllaws.proofs.Formats.{formats_make_an_empty_store}
use Rattle.order.specs.Order.{EndsThere}
use Rattle.order.proofs.Found.{any_contents}
use Rattle.acting.specs.Ends.{RanOrCut}
use Rattle.acting.proofs.Running.{ran_or_cut}
use Rattle.calling.specs.Seen.{seen, done_answer, if_done}

module _ {R : Type 0} (kind : Kind R) (m : Machine) (call : Call R) where
  -- a device was dark
  pub dark_step : is_dark m.devices ≡ true → Step kind m call (Refused Dark) m
  dark_step dark = was_dark (record { before = dark; says = refl; same = refl })

  -- the call went by a plan that is the call's
  pub by_plan : (plan : Plan R) (a : Answer R) (n : Machine) → plan_of kind m call ≡ plan → Went plan m a n → Step kind m call a n
  by_plan plan a n e w = went (subst (λ (p : Plan R). Went p m a n) (sym e) w)

  pub cut_by_plan : (plan : Plan R) (a : Answer R) (n : Machine) → plan_of kind m call ≡ plan → WentDark plan m a n → Step kind m call a n
  cut_by_plan plan a n e w = went_dark (subst (λ (p : Plan R). WentDark p m a n) (sym e) w)

-- the sizes, as the devices answer them
pub sizes : (u v b w : ℕ) (x : Bool) → u ≡ v → b ≡ w → fit_sizes u b ≡ x → fit_sizes v w ≡ x
sizes u v b w x p q h = subst (λ (i : ℕ). fit_sizes i w ≡ x) p (subst (λ (j : ℕ). fit_sizes u j ≡ x) q h)

pub format_ran : (m n : Pair) (u v b w : ℕ) (r : Result (Unit {0}) Refusal) → u ≡ v → b ≡ w → RanPair m (format_acts (u - 1) b) r n → RanPair m (format_acts (v - 1) w) r n
format_ran m n u v b w r p q h = subst (λ (i : ℕ). RanPair m (format_acts (i - 1) w) r n) p (subst (λ (j : ℕ). RanPair m (format_acts (u - 1) j) r n) q h)

-- format
module _ {R : Type 0} (kind : Kind R) (nvm : NvmMeaning) (disk : DiskMeaning) (list : Transaction) where
  abbrev m : Machine
  m = seen nvm disk Unmounted list

  abbrev plan : Plan R
  plan = record { acts = format_acts (nvm.size - 1) disk.size; answer = Done; state = Unmounted; list = [] }

  pub format_refused_lem : nvm.dark ≡ false → disk.dark ≡ false → fit_sizes nvm.size disk.size ≡ false → Step kind m Format (Refused BadSize) m
  format_refused_lem lit also h =
      by_plan kind m Format (refusing m BadSize) (Refused BadSize) m (cond-false (fit_sizes nvm.size disk.size) plan (refusing m BadSize) h)
      (record { before = or_from nvm.dark disk.dark lit also; says = refl; acts = done; state = refl; list = refl })

  pub format_stepped : nvm.dark ≡ false → disk.dark ≡ false → fit_sizes nvm.size disk.size ≡ true → EndsThere m
      → (n : NvmMeaning) (d : DiskMeaning) (r : Result (Unit {0}) Refusal) → RanPair (both nvm disk) (format_acts (nvm.size - 1) disk.size) r (both n d)
      → Step kind m Format (done_answer r) (seen n d Unmounted (if_done r [] list))
  format_stepped lit also h ends n d r ran =
      go r (ran_or_cut (format_acts (nvm.size - 1) disk.size) (both nvm disk) (both n d) r
      (formats_make_an_empty_store (nvm.size - 1) disk.size (both nvm disk) (any_contents m ends h)).0 ran)
    where
      go : (r : Result (Unit {0}) Refusal) → RanOrCut (both nvm disk) (format_acts (nvm.size - 1) disk.size) r (both n d)
          → Step kind m Format (done_answer r) (seen n d Unmounted (if_done r [] list))
      go (Ok v) p =
          by_plan kind m Format plan Done (seen n d Unmounted []) (cond-true (fit_sizes nvm.size disk.size) plan (refusing m BadSize) h)
          (record { before = or_from nvm.dark disk.dark lit also; says = refl; acts = p; state = refl; list = refl })
      go (Err e) p =
          cut_by_plan kind m Format plan (Refused e) (seen n d Unmounted list) (cond-true (fit_sizes nvm.size disk.size) plan (refusing m BadSize) h)
          (record { before = or_from nvm.dark disk.dark lit also; says = ap Refused p.0; acts = p.1; state = refl; list = refl })
