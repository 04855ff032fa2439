-- No entry names a frame.
use Rattle.page_model.proofs.WhatUsersSee.{starts}
use Rattle.page_model.proofs.laws.starts_stand.Goals as goal

pub returns : goal.returns
returns c = starts
