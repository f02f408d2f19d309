-- A store of fresh devices, by the devices' own contents. Assumes nothing.
use Rattle.std.proofs.Common.{◌≡◌, ℕ, Bool, false, List, [], Ok, Err, Result, ap, ◌∙◌, subst, MatchResult}
use Rattle.refusal.specs.declared.reason.Refusal.{Refusal}
use Rattle.refusal.specs.declared.reason.Refusal.TheVariants.{NoMemory}
use Rattle.device.specs.Words.{NvmMeaning}
use Rattle.device.specs.Sectors.{DiskMeaning}
use Rattle.ringlaws.specs.TxnInfo.{Transaction}
use Rattle.calls.specs.declared.state.State.{State}
use Rattle.calls.specs.declared.state.State.TheVariants.{Unmounted}
use Rattle.calls.specs.Plans.{Machine}
use Rattle.calling.specs.Seen.{seen}
use Rattle.promise.specs.History.{unknown, Known}
use Rattle.session.specs.Said.{tiles_and_masts}
use Rattle.session.specs.Lines.{Runs}
use Rattle.fresh.specs.Fresh.{fresh, RunsFresh}

pub is_fresh : (nvm : NvmMeaning) (disk : DiskMeaning) (s : State) (l : Transaction)
    → nvm ≡ fresh.devices.nvm → disk ≡ fresh.devices.disk → s ≡ Unmounted → l ≡ [] → seen nvm disk s l ≡ fresh
is_fresh nvm disk s l p q x y =
    ap (λ (n : NvmMeaning). seen n disk s l) p
    ∙ ap (λ (d : DiskMeaning). seen fresh.devices.nvm d s l) q
    ∙ ap (λ (i : State). seen fresh.devices.nvm fresh.devices.disk i l) x
    ∙ ap (λ (i : Transaction). seen fresh.devices.nvm fresh.devices.disk Unmounted i) y

pub on_fresh : {V : Type 0} (items : V → List ℕ) (m n : Machine) (held : Bool) (input : List ℕ) (r : Result V Refusal) → m ≡ fresh → held ≡ false → Known tiles_and_masts unknown m
    → MatchResult r (λ v. held ≡ false → Runs m input (items v) n) (λ e. e ≡ NoMemory) → MatchResult r (λ v. RunsFresh input (items v)) (λ e. e ≡ NoMemory)
on_fresh items m n held input (Ok v) is free known h = record {
  after = n;
  runs = subst (λ (k : Machine). Runs k input (items v) n) is (h free);
  known = subst (Known tiles_and_masts unknown) is known;
}
on_fresh items m n held input (Err e) is free known h = h
