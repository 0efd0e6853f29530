-- Which function has the rows of a scale.
use Rattle.dt_aggfn.specs.declared.function.AggFn.{AggFn}
use Rattle.dt_aggfn.specs.declared.function.AggFn.TheVariants.{Quantize, Lquantize}
use Rattle.dt_aggfn.specs.declared.scale.Scale.{Scale}
use Rattle.dt_aggfn.specs.declared.scale.Scale.TheVariants.{Powers, Levels}

abbrev pub function_on : Scale → AggFn
function_on Powers = Quantize
function_on (Levels bounds) = Lquantize bounds
