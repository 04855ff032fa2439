-- A page that was filled last stays when another is handled.
use Rattle.page_model.proofs.WhatUsersSee.{two_left}
use Rattle.page_model.proofs.laws.two_faults_suffice.Goals as goal

pub returns : goal.returns
returns c = two_left
