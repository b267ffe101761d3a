-- The letters for services and for ends of sessions.
use Rattle.std.specs.Prelude.{ℕ, List, codes}
use Rattle.frame.specs.declared.types.Service.{Service}
use Rattle.frame.specs.declared.types.Service.TheVariants.{Sse, Sch}
use Rattle.service_sheet.specs.declared.record.End.{End}
use Rattle.service_sheet.specs.declared.record.End.TheVariants.{Terminated, Error, Released}

-- SSE or SCH
abbrev pub service_letters : Service → List ℕ
service_letters Sse = codes "SSE"
service_letters Sch = codes "SCH"

-- T, E or R
abbrev pub end_letter : End → ℕ
end_letter Terminated = 0x54
end_letter Error = 0x45
end_letter Released = 0x52
