-- What the code's grants and answers say, in the numbers and values of RULES.md, 9 and 12.
use Rattle.std.specs.Prelude.{Result}
use Rattle.rules.specs.Answers.{Answer, answer, then}
use Rattle.rules.specs.Says.{says}
use Rattle.rules.specs.declared.Refusal.{Refusal}
use Rattle.grant.specs.Grant.{Grant, grant, GrantRead}
use Rattle.grant.specs.declared.Grant as code
use Rattle.grant.specs.declared.GrantRead as read

abbrev pub grant_of : code.Grant → Grant
grant_of g = grant g.feature g.l.0 g.r.0 g.first g.last

abbrev pub grant_says : Result read.GrantRead Refusal → Answer GrantRead
grant_says found = then (says found) λ g. answer (record { grant = grant_of g.grant; next = g.next })
