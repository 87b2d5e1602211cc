-- The starred cases hold by computing.
use mathlib.Core.Path.{refl}
use Rattle.whole.specs.Fill.{filled}
use Rattle.whole.specs.Floor.{floor_div}
use Rattle.directions.specs.Directions.{driven_grade}
use Rattle.distance.specs.Distance.{required_distance, distances_for, metres_for, level_metres, graded_metres, level_parts, graded_parts, up_to_five}
use Rattle.distance.specs.PassingDistance.{passing_distance, passing_parts, initial_parts, left_lane_parts, oncoming_parts, manoeuvre_outside}
use Rattle.curve_lengths.specs.Lengths.{crest_length, sag_length, length_verdict, least_even, long_enough, reaches_minimum, adequate, within_root}
use Rattle.road.specs.Road.{verdict_up_to, numbers_verdict, curves_verdict, curve_verdict}
use Rattle.file.specs.File.{number_at, station_bytes, curve_at, road_in}
use Rattle.file.specs.Reading.{header_verdict, read_verdict_up_to}
use Rattle.heights.specs.Profile.{stored_height, exact_height, exact_from}
use Rattle.heights.specs.Heights.{heights_answer, heights_list, own_heights}
use Rattle.verdicts.specs.Verdicts.{sight_verdict, look_verdict, marks_verdict, passing_verdict}
use Rattle.sight.specs.Sight.{available_sight, sight_from, reach, seen, every_between, every, clears}
use Rattle.sight.specs.Operations.{sight_toward, sight_answer}
use Rattle.sight.specs.Comparisons.{total, tried, comparisons_at, comparisons, comparisons_toward, comparisons_answer}
use Rattle.road_distances.specs.RoadDistances.{steepest_grade, road_distances}
use Rattle.marks.specs.Marks.{mark_of, mark_toward, marks_answer, marks_list}
use Rattle.writing.specs.Bytes.{header_bytes, curve_bytes, file_up_to}
use Rattle.writing.specs.Writing.{write_answer, write_list}
use Rattle.conversion.specs.Conversion.{in_version, convert_verdict, convert_answer, convert_list}
use Rattle.change.specs.Change.{with_length, change_verdict}
use Rattle.preview.specs.Preview.{differing, preview_verdict, preview_answer, preview_first, preview_second}
use Rattle.mirror.specs.Mirror.{mirrored, last_grade, mirror, mirror_verdict}
use Rattle.passing.specs.Passing.{passing_mark, passing_answer, passing_list}
use Rattle.cases.specs.Cases.{StarredCases, curve, road_from, road_of_version, road_for, road_of, level_road, high_road, long_crest, valley_file, crest_file, second_crest_file, level_file, other_file, crest_road, breaks_road, height_at, crest_and_sag, short_crest, least_adequate, manoeuvre, marks_over, crest_and_break, passing_over}

pub starred_cases : StarredCases
unfolding required_distance metres_for level_metres graded_metres level_parts graded_parts up_to_five passing_distance passing_parts initial_parts left_lane_parts oncoming_parts manoeuvre_outside manoeuvre crest_length sag_length length_verdict least_adequate least_even long_enough reaches_minimum adequate within_root verdict_up_to numbers_verdict curves_verdict curve_verdict height_at own_heights heights_list heights_answer filled stored_height exact_height exact_from floor_div breaks_road crest_and_sag crest_and_break mirror mirrored last_grade mirror_verdict crest_road road_of road_for road_of_version road_from level_road high_road long_crest curve valley_file crest_file second_crest_file level_file other_file number_at station_bytes curve_at road_in header_verdict read_verdict_up_to header_bytes curve_bytes file_up_to write_answer write_list in_version convert_verdict convert_answer convert_list change_verdict with_length short_crest preview_answer preview_first preview_second preview_verdict differing road_distances steepest_grade driven_grade distances_for marks_verdict marks_over marks_list marks_answer mark_toward mark_of sight_verdict look_verdict sight_answer sight_toward available_sight sight_from reach seen every_between every clears comparisons_answer comparisons_toward comparisons comparisons_at tried total passing_over passing_list passing_answer passing_verdict passing_mark
starred_cases = record {
  distances = (refl, refl, refl, refl, refl, refl);
  passing = (refl, refl, refl, refl);
  crests = (refl, refl, refl, refl, refl, refl);
  adequate_crests = (refl, refl, refl, refl);
  sags = (refl, refl, refl, refl, refl);
  heights = (refl, refl, refl, refl, refl, refl);
  breaks = (refl, refl, refl, refl, refl);
  versions = (refl, refl, refl, refl, refl, refl, refl, refl, refl, refl, refl, refl);
  files = (refl, refl, refl, refl, refl, refl, refl, refl, refl, refl, refl, refl);
  conversions = (refl, refl, refl, refl, refl, refl, refl, refl, refl, refl, refl, refl);
  changes = (refl, refl, refl, refl, refl, refl, refl, refl, refl, refl);
  previews = (refl, refl, refl, refl, refl, refl);
  sights = (refl, refl, refl);
  comparisons = (refl, refl, refl, refl, refl);
  back = (refl, refl, refl, refl, refl, refl, refl, refl, refl);
  mirrors = (refl, refl, refl);
  passing_marks = (refl, refl, refl);
}
