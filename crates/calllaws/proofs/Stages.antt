-- Acts that take both devices from settled contents to settled contents, one list after another, and what stays of the devices
-- on the way. Assumes nothing.
use Rattle.std.proofs.Common.{◌≡◌, ℕ, List, ◌++◌, map, sym, refl, ◌∙◌, subst}
use Rattle.device.specs.Pieces.{Piece, settled}
use Rattle.device.specs.Devices.{Rules}
use Rattle.device.specs.Words.{NvmAct, nvm_rules}
use Rattle.device.specs.Sectors.{DiskAct, disk_rules}
use Rattle.crash.specs.Acts.{made, Leads, Accepts}
use Rattle.crash.specs.Keeping.{nvm_keeps, disk_keeps, Phase}
use Rattle.crash.specs.Pair.{Pair, Act, on_nvm, on_disk, PerformedPair, CutPair, PairRestarted, PairRests, PairAccepts, nvm_part, disk_part}
use Rattle.crash.proofs.Tame.{nvm_is_tame, disk_is_tame}
use Rattle.crash.proofs.Follow.{leads_append, accepts_append, run_size, begun_size, phase_settles, accepts_settled}
use Rattle.crash.proofs.Pairs.{runs_part, cuts_part, nvm_append, disk_append, nvm_own, disk_own, nvm_none, disk_none}
use Rattle.ringlaws.specs.Layout.{Contents}
use Rattle.calllaws.specs.Holds.{Ready}

-- The acts take devices of u units and b blocks from the settled contents c and e to the settled contents d and f, and neither
-- device can refuse one of them but for darkness.
pub record Stage (u b : ℕ) (c : ℕ → ℕ) (e : ℕ → List ℕ) (acts : List Act) (d : ℕ → ℕ) (f : ℕ → List ℕ) : Type 0 where
  pub words : Leads nvm_rules c (nvm_part acts) d
  pub sectors : Leads disk_rules e (disk_part acts) f
  pub stored : Accepts nvm_rules u (λ w. settled (c w)) (nvm_part acts)
  pub written : Accepts disk_rules b (λ s. settled (e s)) (disk_part acts)

-- what is accepted at the contents that acts lead to is accepted after them
pub accepts_then : {Act Mark Value : Type 0} (rules : Rules Act Mark Value) (u : ℕ) (piece : ℕ → Piece Mark Value) (d : ℕ → Value) (xs ys : List Act)
    → ((i : ℕ) → made rules xs i (piece i) ≡ settled (d i)) → Accepts rules u piece xs → Accepts rules u (λ i. settled (d i)) ys → Accepts rules u piece (xs ++ ys)
accepts_then {Mark = Mark} {Value = Value} rules u piece d xs ys leads h k =
    let q : (λ i. settled (d i)) ≡ (λ i. made rules xs i (piece i)) = (λ j i. sym (leads i) j) in
    accepts_append rules xs ys u piece h (subst (λ (p : ℕ → Piece Mark Value). Accepts rules u p ys) q k)

module _ {u b : ℕ} {c d : ℕ → ℕ} {e f : ℕ → List ℕ} where
  pub stage_then : {g : ℕ → ℕ} {h : ℕ → List ℕ} {xs ys : List Act} → Stage u b c e xs d f → Stage u b d f ys g h → Stage u b c e (xs ++ ys) g h
  stage_then {g} {h} {xs} {ys} first next = record {
    words = subst (λ (t : List NvmAct). Leads nvm_rules c t g) (sym (nvm_append xs ys)) (leads_append nvm_rules c d g (nvm_part xs) (nvm_part ys) first.words next.words);
    sectors = subst (λ (t : List DiskAct). Leads disk_rules e t h) (sym (disk_append xs ys)) (leads_append disk_rules e f h (disk_part xs) (disk_part ys) first.sectors next.sectors);
    stored = subst (Accepts nvm_rules u (λ w. settled (c w))) (sym (nvm_append xs ys))
        (accepts_then nvm_rules u (λ w. settled (c w)) d (nvm_part xs) (nvm_part ys) first.words first.stored next.stored);
    written = subst (Accepts disk_rules b (λ s. settled (e s))) (sym (disk_append xs ys))
        (accepts_then disk_rules b (λ s. settled (e s)) f (disk_part xs) (disk_part ys) first.sectors first.written next.written);
  }

  -- performed whole
  pub stage_whole : {acts : List Act} {m n : Pair} → Stage u b c e acts d f → PairRests c e m → PerformedPair m acts n → PairRests d f n
  stage_whole {acts} {m} {n} s rests r =
      let (x, y) = runs_part acts m n r in
      record {
        nvm = phase_settles nvm_rules nvm_keeps nvm_is_tame c d (nvm_part acts) m.nvm n.nvm rests.nvm s.words x;
        disk = phase_settles disk_rules disk_keeps disk_is_tame e f (disk_part acts) m.disk n.disk rests.disk s.sectors y;
      }

  -- only darkness stops it
  pub stage_accepted : {acts : List Act} {m : Pair} → Stage u b c e acts d f → m.nvm.size ≡ u → m.disk.size ≡ b → PairRests c e m → PairAccepts m acts
  stage_accepted {acts} {m} s units blocks rests = record {
    nvm = accepts_settled nvm_rules nvm_keeps nvm_is_tame c m.nvm (nvm_part acts) rests.nvm
        (subst (λ (k : ℕ). Accepts nvm_rules k (λ w. settled (c w)) (nvm_part acts)) (sym units) s.stored);
    disk = accepts_settled disk_rules disk_keeps disk_is_tame e m.disk (disk_part acts) rests.disk
        (subst (λ (k : ℕ). Accepts disk_rules k (λ s. settled (e s)) (disk_part acts)) (sym blocks) s.written);
  }

-- a phase of one device
pub nvm_stage : {u b : ℕ} {c d : ℕ → ℕ} {e : ℕ → List ℕ} {acts : List NvmAct} → Phase nvm_rules nvm_keeps u c acts d → Stage u b c e (map on_nvm acts) d e
nvm_stage {u} {b} {c} {d} {e} {acts} p = record {
  words = subst (λ (t : List NvmAct). Leads nvm_rules c t d) (sym (nvm_own acts)) p.leads;
  sectors = subst (λ (t : List DiskAct). Leads disk_rules e t e) (sym (disk_none acts)) (λ s. refl);
  stored = subst (Accepts nvm_rules u (λ w. settled (c w))) (sym (nvm_own acts)) p.accepted;
  written = subst (Accepts disk_rules b (λ s. settled (e s))) (sym (disk_none acts)) tt;
}

pub disk_stage : {u b : ℕ} {c : ℕ → ℕ} {e f : ℕ → List ℕ} {acts : List DiskAct} → Phase disk_rules disk_keeps b e acts f → Stage u b c e (map on_disk acts) c f
disk_stage {u} {b} {c} {e} {f} {acts} p = record {
  words = subst (λ (t : List NvmAct). Leads nvm_rules c t c) (sym (nvm_none acts)) (λ w. refl);
  sectors = subst (λ (t : List DiskAct). Leads disk_rules e t f) (sym (disk_own acts)) p.leads;
  stored = subst (Accepts nvm_rules u (λ w. settled (c w))) (sym (nvm_none acts)) tt;
  written = subst (Accepts disk_rules b (λ s. settled (e s))) (sym (disk_own acts)) p.accepted;
}

-- The sizes stay: through acts, and through a cut and a restart.
pub record SameSizes (m n : Pair) : Type 0 where
  pub units : n.nvm.size ≡ m.nvm.size
  pub blocks : n.disk.size ≡ m.disk.size

pub performed_sizes : {acts : List Act} {m n : Pair} → PerformedPair m acts n → SameSizes m n
performed_sizes {acts} {m} {n} r = let (x, y) = runs_part acts m n r in record { units = run_size nvm_rules x; blocks = run_size disk_rules y }

pub restarted_sizes : {acts : List Act} {m n p : Pair} → CutPair m acts n → PairRestarted n p → SameSizes m p
restarted_sizes {acts} {m} {n} {p} cut again =
    let (dark, x, y) = cuts_part acts m n cut in
    record { units = again.nvm.size ∙ begun_size nvm_rules x; blocks = again.disk.size ∙ begun_size disk_rules y }

pub sizes_then : {m n p : Pair} → SameSizes m n → SameSizes n p → SameSizes m p
sizes_then a b = record { units = b.units ∙ a.units; blocks = b.blocks ∙ a.blocks }

-- a pair of the same sizes that is settled is ready
pub ready_again : {N B : ℕ} {c d : Contents} {e f : ℕ → List ℕ} {m n : Pair} → Ready N B c e m → SameSizes m n → PairRests d f n → Ready N B d f n
ready_again r s rests = record {
  least = r.least;
  most = r.most;
  some = r.some;
  few = r.few;
  units = s.units ∙ r.units;
  blocks = s.blocks ∙ r.blocks;
  rests = rests;
}
