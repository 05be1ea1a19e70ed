use Rattle.std.proofs.Common.{sym}
use Rattle.space_sql.specs.Load.{IsAllOf}
use Rattle.service_recovery.proofs.Crashes.{words_of}
use Rattle.dss_database.proofs.PoolFiles.{from_loaded, from_nothing}
use Rattle.dss_database.proofs.pool_files.loaded_tables.Goals as goal

pub returns-in-Some : goal.returns-in-Some
returns-in-Some g c =
    let all : IsAllOf g.A.Store c.args.space.now c.in-Some.loaded = rw c.in-Some.is at c.requires in
    from_loaded (words_of g.A.Store) _ _ (record { sound = λ sound. sound; whole = λ sound whole. whole; no_other = λ sound a held. held }) c.in-Some.loaded (λ sound a held. sym ((all.content sound).only a held)) c.in_memory.result c.in_memory.ensures.content c.in_memory.ensures.fault

pub returns-in-Ok : goal.returns-in-Ok
returns-in-Ok g c =
    let reads = c.in-Ok.ensures.reads in
    from_loaded (words_of g.A.Store) _ _ (record { sound = reads.sound; whole = reads.whole; no_other = reads.no_other }) c.in-Ok.loaded reads.answer c.in_memory-in-Ok.result c.in_memory-in-Ok.ensures.content c.in_memory-in-Ok.ensures.fault

pub returns-in-Err : goal.returns-in-Err
returns-in-Err g c =
    let reads = c.load_airspace.ensures.reads in
    from_nothing (words_of g.A.Store) _ _ (record { sound = reads.sound; whole = reads.whole; no_other = reads.no_other })
