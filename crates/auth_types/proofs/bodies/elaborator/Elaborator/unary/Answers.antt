use Rattle.auth_types.proofs.bodies.elaborator.Elaborator.unary.Goals as goal

pub returns-in-Fst-clause-found : goal.returns-in-Fst-clause-found
returns-in-Fst-clause-found c = rw c.in-Fst.is c.first.ensures.found

pub returns-in-Snd-clause-found : goal.returns-in-Snd-clause-found
returns-in-Snd-clause-found c = rw c.in-Snd.is c.second.ensures.found

pub returns-in-Auth-clause-found : goal.returns-in-Auth-clause-found
returns-in-Auth-clause-found c = rw c.in-Auth.is (c.authenticated.ensures.found c.args.at)

pub returns-in-Unauth-clause-found : goal.returns-in-Unauth-clause-found
returns-in-Unauth-clause-found c = rw c.in-Unauth.is c.opened.ensures.found
