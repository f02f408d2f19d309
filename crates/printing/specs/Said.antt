-- What a line says: a detail or a complaint, as the number and the detail of its text.
use Rattle.std.specs.Prelude.{ℕ, Ok, Err, Result}
use Rattle.refusal.specs.Numbers.{number_of}
use Rattle.printing.specs.declared.detail.Detail.{Detail}
use Rattle.printing.specs.declared.detail.Detail.TheVariants.{Nothing}
use Rattle.printing.specs.declared.complaint.Complaint.{Complaint}
use Rattle.printing.specs.declared.complaint.Complaint.TheVariants.{Refused, AnotherForm, TooLong}

-- the number of a refusal, or 90 or 91
abbrev pub complaint_number : Complaint → ℕ
complaint_number (Refused e) = number_of e
complaint_number AnotherForm = 90
complaint_number TooLong = 91

-- the number that a line says: 0 where there is no complaint
abbrev pub number_shown : Result Detail Complaint → ℕ
number_shown (Ok detail) = 0
number_shown (Err complaint) = complaint_number complaint

-- the detail that it says: nothing beside a complaint
abbrev pub detail_shown : Result Detail Complaint → Detail
detail_shown (Ok detail) = detail
detail_shown (Err complaint) = Nothing
