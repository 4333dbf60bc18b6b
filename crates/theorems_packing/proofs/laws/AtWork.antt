-- Every theorem of this crate at work on the table of Cases.antt, in each field.
use Rattle.theorems_packing.proofs.laws.Cases.{AtWork, at_work, computed}

pub in_each_field : AtWork 1 1677721607 1006632965 × AtWork 2 355117745 1065353221
in_each_field = (at_work 1 computed.0, at_work 2 computed.1)
