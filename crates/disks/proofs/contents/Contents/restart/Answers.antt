use Rattle.std.proofs.Common.{◌≡◌, ℕ, ◌/◌, Bool, cond, ◌&&◌, List, length, get_or, ap, ◌∙◌, arith}
use Rattle.std.specs.Vec.{with_items}
use Rattle.device.specs.declared.comeback.Comeback.{Comeback}
use Rattle.simulated.specs.declared.supply.Supply.{Supply}
use Rattle.simulated.specs.Lists.{member}
use Rattle.simulated.specs.Listing.{lines_of}
use Rattle.simulated.specs.Natures.{returned}
use Rattle.simulated.proofs.Flags.{listed_below}
use Rattle.simulated.proofs.Lent.{lent_at}
use Rattle.simulated.proofs.Laws.{same_state}
use Rattle.disks.specs.Rows.{goes_back}
use Rattle.disks.specs.State.{DiskState, disk_state}
use Rattle.disks.specs.declared.contents.Contents.{Contents}
use Rattle.disks.specs.Parts.{came_back}
use Rattle.disks.proofs.contents.Contents.restart.Goals as goal

pub revert-requires : goal.revert-requires
revert-requires c =
    let d = c.args.self.now in (
      omega (arith, c.as_slice.ensures.len, c.as_slice-2.ensures.len, d.olds, d.eights),
      (
        omega (arith, c.as_mut_slice.ensures.len, c.as_slice-2.ensures.len, d.news, d.eights),
        (λ k l. omega (arith, listed_below d.pending c.as_slice-3.result.now c.as_slice-3.ensures k l, c.as_slice-2.ensures.len, d.eights, d.lists)),
      ),
    )

-- the slices are those of the disk d, whose present words ended as `new`
module _ (d : Contents) (how : Comeback) (ss ps new : List ℕ) (ms : List Bool) (queue : List ℕ)
    (is-s : ss ≡ d.settled.items) (is-p : ps ≡ d.present.items) (is_m : ms ≡ d.waiting.items) (is-q : queue ≡ lines_of d.pending) (long : length new ≡ length ps)
    (h : (w : ℕ) → get_or new w 0 ≡ cond (member (w / 512) queue && goes_back ms how (w / 64)) (get_or ss w 0) (get_or ps w 0)) where
  words : (w : ℕ) → get_or (with_items d.present new).items w 0
      ≡ cond (member (w / 512) (lines_of d.pending) && goes_back d.waiting.items how (w / 64)) (get_or d.settled.items w 0) (get_or d.present.items w 0)
  words w =
      lent_at 0 d.present ps new is-p long w ∙ h w
      ∙ ap (λ (x : List ℕ). cond (member (w / 512) x && goes_back ms how (w / 64)) (get_or ss w 0) (get_or ps w 0)) is-q
      ∙ ap (λ (x : List Bool). cond (member (w / 512) (lines_of d.pending) && goes_back x how (w / 64)) (get_or ss w 0) (get_or ps w 0)) is_m
      ∙ ap (λ (x : List ℕ). cond (member (w / 512) (lines_of d.pending) && goes_back d.waiting.items how (w / 64)) (get_or x w 0) (get_or ps w 0)) is-s
      ∙ ap (λ (x : List ℕ). cond (member (w / 512) (lines_of d.pending) && goes_back d.waiting.items how (w / 64)) (get_or d.settled.items w 0) (get_or x w 0)) is-p

pub returns : goal.returns
returns c =
    let d = c.args.self.now in
    let how = c.args.how.now in
    let e = c.settle.ensures in
    let all = words d how c.as_slice.result.now c.as_mut_slice.result.now c.revert.new.present c.as_slice-2.result.now c.as_slice-3.result.now
    c.as_slice.ensures.value c.as_mut_slice.ensures.value c.as_slice-2.ensures.value c.as_slice-3.ensures c.revert.auto.present c.revert.ensures in
    same_state _ (returned how c.args.acts (disk_state d)) (ap (λ (x : DiskState). x.meaning.size) e) (ap (λ (x : Supply). x.dark) c.restore.ensures)
    (λ s. ap (λ (x : DiskState). x.meaning.piece s) e ∙ came_back d.settled.items d.present.items (with_items d.present c.revert.new.present).items d.waiting.items how (lines_of d.pending) d.listed all s)
    (ap (λ (x : Supply). x.left) c.restore.ensures)
