use Rattle.space_sql.proofs.answers.at_rest.Goals as goal

pub returns : goal.returns
returns g c = record {
  live = c.connection_facts.ensures.live;
  settled = c.connection_facts.ensures.settled c.requires;
  stays = λ o. g.met.S.Store.stays _ o;
  no_other = λ db o may. g.met.S.Store.settled _ db o may;
}
