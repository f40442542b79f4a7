-- The numbers of faults (own).
use Rattle.std.specs.Prelude.{ℕ}
use Rattle.exr_request.specs.declared.fault.RequestFault.{RequestFault}
use Rattle.exr_request.specs.declared.fault.RequestFault.TheVariants.{NoPart, DeepWords, Window, Mixed, Layout, TooLarge, Match, DeepTooLarge}

abbrev pub request_number_of : RequestFault → ℕ
request_number_of NoPart = 1
request_number_of DeepWords = 2
request_number_of Window = 3
request_number_of (Mixed slice) = 4
request_number_of (Layout fault) = 5
request_number_of TooLarge = 6
request_number_of (Match fault) = 7
request_number_of (DeepTooLarge index) = 11
