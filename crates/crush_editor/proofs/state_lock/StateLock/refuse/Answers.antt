use Rattle.std.proofs.Common.{ap}
use Rattle.crush_editor.proofs.Seats.{has_met}
use Rattle.crush_editor.proofs.state_lock.StateLock.refuse.Goals as goal

pub returns-clause-table : goal.returns-clause-table
returns-clause-table g c = let e = c.refuse.ensures in (has_met g.N.Desk.gauge g.N.Desk.opening _ c.deref_mut.result.now c.refuse.new.self c.refuse.new.reader e.table e.opening (ap (λ b. b.history) e.book) e.seen e.begins e.legal).0

pub returns-clause-reader : goal.returns-clause-reader
returns-clause-reader g c = let e = c.refuse.ensures in (has_met g.N.Desk.gauge g.N.Desk.opening _ c.deref_mut.result.now c.refuse.new.self c.refuse.new.reader e.table e.opening (ap (λ b. b.history) e.book) e.seen e.begins e.legal).1

pub returns-clause-begins : goal.returns-clause-begins
returns-clause-begins g c = let e = c.refuse.ensures in (has_met g.N.Desk.gauge g.N.Desk.opening _ c.deref_mut.result.now c.refuse.new.self c.refuse.new.reader e.table e.opening (ap (λ b. b.history) e.book) e.seen e.begins e.legal).2

pub returns-clause-legal : goal.returns-clause-legal
returns-clause-legal g c = let e = c.refuse.ensures in (has_met g.N.Desk.gauge g.N.Desk.opening _ c.deref_mut.result.now c.refuse.new.self c.refuse.new.reader e.table e.opening (ap (λ b. b.history) e.book) e.seen e.begins e.legal).3
