use Rattle.std.proofs.Common.{arith}
use Rattle.std.proofs.lemmas.Grind.{common_steps}
use Rattle.methods.proofs.meson_object.meson_answer.Goals as goal

pub returns-in-Some-Backend : goal.returns-in-Some-Backend
returns-in-Some-Backend c = grind (arith, common_steps)

pub returns-in-Some-BuildRoot : goal.returns-in-Some-BuildRoot
returns-in-Some-BuildRoot c = grind (arith, common_steps)

pub returns-in-Some-CurrentBuildDir : goal.returns-in-Some-CurrentBuildDir
returns-in-Some-CurrentBuildDir c = grind (arith, common_steps)

pub returns-in-Some-CurrentSourceDir : goal.returns-in-Some-CurrentSourceDir
returns-in-Some-CurrentSourceDir c = grind (arith, common_steps)

pub returns-in-Some-GetCompiler : goal.returns-in-Some-GetCompiler
returns-in-Some-GetCompiler c = grind (arith, common_steps)

pub returns-in-Some-IsCrossBuild : goal.returns-in-Some-IsCrossBuild
returns-in-Some-IsCrossBuild c = grind (arith, common_steps)

pub returns-in-Some-IsSubproject : goal.returns-in-Some-IsSubproject
returns-in-Some-IsSubproject c = grind (arith, common_steps)

pub returns-in-Some-ProjectName : goal.returns-in-Some-ProjectName
returns-in-Some-ProjectName c = grind (arith, common_steps)

pub returns-in-Some-ProjectVersion : goal.returns-in-Some-ProjectVersion
returns-in-Some-ProjectVersion c = grind (arith, common_steps)

pub returns-in-Some-SourceRoot : goal.returns-in-Some-SourceRoot
returns-in-Some-SourceRoot c = grind (arith, common_steps)

pub returns-in-Some-Version : goal.returns-in-Some-Version
returns-in-Some-Version c = grind (arith, common_steps)

pub returns-in-None : goal.returns-in-None
returns-in-None c = grind (arith, common_steps)
