use Rattle.space_quota.proofs.purges.purge_counted.Goals as goal

pub returns-in_default-clause-going : goal.returns-in_default-clause-going
returns-in_default-clause-going g c = c.without_snapshot.ensures.going c.args.items.now
