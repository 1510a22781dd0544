-- The judges' answer as two numbers (RULES, "Judges").
--     answer_of j      0 accepts, 1 rejects, 2 stops with the letters read, 3 refused with the refusal's number
--     answer_in x      that of a result: the answer where there is one, else refused with the number of the refusal
--     answer_text j    bytes: the answer as it is printed
use Rattle.std.specs.Prelude.{ℕ, List, ◌++◌, Result, Ok, Err, codes, decimal}
use Rattle.rules.specs.Numbered.{number_of}
use Rattle.rules.specs.declared.refusal.Refusal.{Refusal}
use Rattle.rules.specs.Answers.{Answer, accepts, rejects, stops, refused}
use Rattle.judge.specs.declared.Judged.{Judged}
use Rattle.judge.specs.declared.Judged.TheVariants.{Accepts, Rejects, Stops, Refused}

abbrev pub answer_of : Judged → Answer
answer_of Accepts = accepts
answer_of Rejects = rejects
answer_of (Stops n) = stops n
answer_of (Refused n) = refused n

abbrev pub answer_in : Result Judged Refusal → Answer
answer_in (Ok j) = answer_of j
answer_in (Err r) = refused (number_of r)

abbrev pub answer_text : Judged → List ℕ
answer_text Accepts = codes "accepts"
answer_text Rejects = codes "rejects"
answer_text (Stops n) = codes "stops " ++ decimal n
answer_text (Refused n) = codes "refused " ++ decimal n
