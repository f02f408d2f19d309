use Rattle.std.proofs.Common.{vec_items, sym, ap, ◌∙◌, subst}
use Rattle.nvms.specs.States.{patient_meaning}
use Rattle.disks.specs.declared.simulation.SimulatedDisk.{SimulatedDisk}
use Rattle.disks.specs.State.{DiskState, disk_state}
use Rattle.settings.specs.Puts.{list_of}
use Rattle.calling.specs.Seen.{seen}
use Rattle.promise.specs.History.{unknown, Known}
use Rattle.session.specs.Said.{tiles_and_masts}
use Rattle.fresh.proofs.Freshly.{is_fresh, on_fresh}
use Rattle.fresh.proofs.run_fresh.Goals as goal

pub returns-in-Ok : goal.returns-in-Ok
returns-in-Ok c =
    let store = c.in-Ok.store in
    let made = c.in-Ok.ensures.made in
    let session = c.new-session.ensures in
    let same = ap (λ s. seen (patient_meaning s.engine.nvm) (disk_state s.engine.disk.contents).meaning s.engine.state (list_of s.engine.settings)) session.0 in
    let fresh-store = is_fresh _ _ _ _
    (ap patient_meaning made.0 ∙ ap (λ t. t.meaning) c.in_ok-nvm.ensures)
    (ap (λ (d : SimulatedDisk _). (disk_state d.contents).meaning) made.1 ∙ ap (λ (t : DiskState). t.meaning) c.in_ok-disk.ensures)
    made.2 made.3 in
    on_fresh vec_items _ _ c.new-session.result.held c.args.input.now c.run_script.result (same ∙ fresh-store) session.1
    (subst (Known tiles_and_masts unknown) (sym same) c.in-Ok.ensures.known) c.run_script.ensures
