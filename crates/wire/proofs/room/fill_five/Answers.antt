use native.Mathlib.Omega.{arith}
use Rattle.wire.specs.inner.Place.{word_count}
use Rattle.wire.specs.laws.Room.{five}
use Rattle.wire.proofs.room.fill_five.Goals as goal

pub fill-first-requires : goal.fill-first-requires
unfolding word_count
fill-first-requires c = omega (arith)

pub fill-second-requires : goal.fill-second-requires
unfolding word_count
fill-second-requires c = omega arith

pub fill-third-requires : goal.fill-third-requires
unfolding word_count
fill-third-requires c = omega arith

pub fill-fourth-requires : goal.fill-fourth-requires
unfolding word_count
fill-fourth-requires c = omega arith

pub fill-fifth-requires : goal.fill-fifth-requires
unfolding word_count
fill-fifth-requires c = omega arith

pub returns : goal.returns
returns c =
    five c.requires c.fill-first.ensures c.fill-second.ensures c.fill-third.ensures c.fill-fourth.ensures c.fill-fifth.ensures
