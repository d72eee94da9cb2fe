use Rattle.std.proofs.Common.{inr, List, ℕ, ◌≡◌, ◌≤◌, ◌+◌, sym, subst, arith, length}
use Rattle.sqlite_disk.specs.Disk.{Holds}
use Rattle.sealed_log.specs.Lines.{IsLine, IsPart}
use Rattle.sealed_log.proofs.FaultFacts.{of_read, without_memory}
use Rattle.sealed_log.proofs.LineFacts.{part_more, part_whole}
use Rattle.sealed_log.proofs.lines.read_piece.Goals as goal

pub returns-in_ok-extend_from_slice-in-Some-clause-more :
    goal.returns-in_ok-extend_from_slice-in-Some-clause-more
returns-in_ok-extend_from_slice-in-Some-clause-more g c = λ clean part.
    let seen = g.D.Disk.seen c.args.disk.now in
    let line = c.args.line.now.items in
    let there : c.args.at + c.len.result ≡ c.args.at + length line = omega arith in
    let holds = subst (λ at. Holds seen at c.read_at.new.buf) there (c.in-Ok.ensures.read clean c.requires.some) in
    let found = c.in-Some.ensures in
    subst (IsLine seen c.args.at) (sym {A = List ℕ} c.in_ok-extend_from_slice-in-Some.ensures.items)
    (part_whole seen line c.read_at.new.buf c.args.at c.in-Some.n part holds found.0 found.1 found.2)

pub returns-in_ok-extend_from_slice-in-None-clause-more :
    goal.returns-in_ok-extend_from_slice-in-None-clause-more
returns-in_ok-extend_from_slice-in-None-clause-more g c = λ clean part.
    let seen = g.D.Disk.seen c.args.disk.now in
    let line = c.args.line.now.items in
    let there : c.args.at + c.len.result ≡ c.args.at + length line = omega arith in
    let holds = subst (λ at. Holds seen at c.read_at.new.buf) there (c.in-Ok.ensures.read clean c.requires.some) in
    subst (IsPart seen c.args.at) (sym {A = List ℕ} c.in_ok-extend_from_slice-in-None.ensures.items)
    (part_more seen line c.read_at.new.buf c.args.at part holds c.in-None.ensures)

pub returns-in-Err-clause-word : goal.returns-in-Err-clause-word
returns-in-Err-clause-word g c = λ clean within.
    let there : c.args.at + c.len.result + length c.args.piece.now ≤ length (g.D.Disk.seen c.args.disk.now) = omega arith in
    inr (of_read g.D.Disk c.args.disk.now c.read_at.new.self c.in-Err.error _ (c.in-Err.ensures.faults.0 (λ _. there)) c.read_at.ensures.tally c.of_read.ensures)

pub returns-in_err-extend_from_slice-in-Some-clause-word : goal.returns-in_err-extend_from_slice-in-Some-clause-word
returns-in_err-extend_from_slice-in-Some-clause-word g c = λ clean within.
    without_memory g.D.Disk c.args.disk.now c.read_at.new.self c.from_residual.result
    c.from_residual.ensures.1

pub returns-in_err-extend_from_slice-in-None-clause-word : goal.returns-in_err-extend_from_slice-in-None-clause-word
returns-in_err-extend_from_slice-in-None-clause-word g c = λ clean within.
    without_memory g.D.Disk c.args.disk.now c.read_at.new.self c.from_residual-in_err-extend_from_slice-in-None.result
    c.from_residual-in_err-extend_from_slice-in-None.ensures.1
