-- The report of what was read.
use Rattle.std.specs.Prelude.{◌≡◌, Ok}
use Rattle.std.proofs.Common.{inr, ap, ap₂, subst, ◌∙◌, ◌++◌, List, ℕ, Vec, Global}
use Rattle.entity_core.specs.Airspace.{Airspace}
use Rattle.space_core.specs.declared.space.Space.{Ghosts}
use Rattle.space_core.specs.Space.{Reads, ReportsFault}
use Rattle.dss_report.specs.CellLines.{HasPlaces, IsPlacesIn, IsPlacesOf, Place, places_of}
use Rattle.dss_report.specs.Reading.{AreContentsOf, Reports}
use Rattle.dss_report.specs.Report.{lines_of, report_of, serial_line, text_of}
use Rattle.dss_report.specs.declared.contents.Contents.{Contents}

-- The text of what was read is the report of the airspace.
text_is : (a : Airspace) (kept : Contents) → AreContentsOf a kept → text_of kept ≡ report_of a
text_is a kept is =
    ap₂ (λ (x y : List ℕ). x ++ y) (ap lines_of is.0) (ap₂ (λ (x y : List ℕ). x ++ y) (ap lines_of is.1) (ap serial_line is.2))

-- A property of what was read is a property of the airspace.
pub reports_as : {S : Type 0} (g : Ghosts S) (old new : S) (kept : Contents) (text : Vec ℕ Global) (P : Airspace → Vec ℕ Global → Type 0)
    → ReportsFault (g.refusals old) (g.refusals new) (g.is_broken old) (g.is_broken new) (Ok kept)
    → Reads g.holds g.is_sound g.is_whole old new (Ok kept) AreContentsOf
    → ((a : Airspace) → AreContentsOf a kept → P a text)
    → Reports g old new (Ok text) P
reports_as g old new kept text P tells reads is = record {
  sound = reads.sound;
  whole = reads.whole;
  stays = λ s. inr (reads.stays s);
  no_other = reads.no_other;
  answer = λ s a h. is a (reads.answer s a h);
  told = (tells.counted, tells.breaks);
}

pub reports_of : {S : Type 0} (g : Ghosts S) (old new : S) (kept : Contents) (text : Vec ℕ Global)
    → ReportsFault (g.refusals old) (g.refusals new) (g.is_broken old) (g.is_broken new) (Ok kept)
    → Reads g.holds g.is_sound g.is_whole old new (Ok kept) AreContentsOf
    → text.items ≡ text_of kept
    → Reports g old new (Ok text) (λ a text. text.items ≡ report_of a)
reports_of g old new kept text tells reads is =
    reports_as g old new kept text (λ a text. text.items ≡ report_of a) tells reads (λ a read. is ∙ text_is a kept read)

-- The cells of what was read are the cells of the airspace.
places_are : (a : Airspace) (kept : Contents) (text : List ℕ) → AreContentsOf a kept → IsPlacesIn kept text → IsPlacesOf a text
places_are a kept text is has =
    subst (λ (ps : List Place). HasPlaces ps text) (ap₂ (λ (x y : List Place). x ++ y) (ap places_of is.0) (ap places_of is.1)) has

pub places_reported : {S : Type 0} (g : Ghosts S) (old new : S) (kept : Contents) (text : Vec ℕ Global)
    → ReportsFault (g.refusals old) (g.refusals new) (g.is_broken old) (g.is_broken new) (Ok kept)
    → Reads g.holds g.is_sound g.is_whole old new (Ok kept) AreContentsOf
    → IsPlacesIn kept text.items
    → Reports g old new (Ok text) (λ a text. IsPlacesOf a text.items)
places_reported g old new kept text tells reads is =
    reports_as g old new kept text (λ a text. IsPlacesOf a text.items) tells reads (λ a read. places_are a kept text.items read is)
