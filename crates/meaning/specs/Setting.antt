-- What its module tells a body: one type for both sides, so that neither side's rows take a module.

-- nothing yet: no constant that is held names a thing of its module
pub data Setting : Type 0 where
  TellsNothing : Setting
