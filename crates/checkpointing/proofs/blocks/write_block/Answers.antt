use Rattle.std.proofs.Common.{ℕ, List, subst, arith}
use Rattle.device.specs.Devices.{Acted}
use Rattle.device.specs.Words.{words_of}
use Rattle.device.specs.Sectors.{Write, disk_rules, sectors_of}
use Rattle.checkpointing.specs.Rows.{place_in}
use Rattle.checkpointing.proofs.Loading.{loads_agree, loads_within, block_made}
use Rattle.checkpointing.proofs.Looking.{read_open}
use Rattle.checkpointing.proofs.blocks.write_block.Goals as goal

pub returns-in_err-read : goal.returns-in_err-read
returns-in_err-read g c =
    absurd (read_open (g.D.Disk.meaning c.args.disk.now) c.args.block c.in_err-read.field-0.0 c.requires.lit.1 c.requires.inside.0 c.in_err-read.ensures.0)

pub returns-in_err-lay_block : goal.returns-in_err-lay_block
returns-in_err-lay_block g c =
    let n = g.N.Nvm.meaning c.args.nvm.now in
    absurd (loads_within n n.size c.in_err-lay_block.field-0.0 c.requires.lit.0 (omega arith) (c.in_err-lay_block.ensures n.size c.requires.within))

pub returns : goal.returns
returns g c =
    let n = g.N.Nvm.meaning c.args.nvm.now in
    let m = g.D.Disk.meaning c.args.disk.now in
    let e = block_made (words_of n) (place_in c.args.rows.now) (sectors_of m) c.args.block c.read.new.buf c.lay_block.new.buf
    c.in_ok-read.ensures.1 c.lay_block.array_long (c.in_ok-lay_block.ensures (words_of n) (loads_agree n)) in
    subst (λ (ws : List ℕ). Acted disk_rules m (Write c.args.block ws) c.write.result (g.D.Disk.meaning c.write.new.self)) e c.write.ensures
