-- Demand 3 worked on a frame, computed by the checker from the definitions: a call of the oracle's list (7.5 ms, bandwidth 3, 2953 bits, 240
-- lines). The side data and the filtered lines are those that the Rust gave for it, the gains those of oracle/model.py. The exact lines are those of
-- oracle/example_error.py, a calculation of its own. Shown are lines at the seam of the bands, where the states carry over, and at the end.
use Rattle.std.specs.Prelude.{◌≡◌, refl, false, List, [], ◌∷◌, ◌++◌, map, ℕ, take, drop, ℤ, pos, negsuc, nat_abs, ◌-ℤ◌, Float}
use Rattle.std.specs.Float.{binary32}
use Rattle.std.specs.Float.Ieee.{of_bits, to_bits, add, sub, mul, div, neg, eq, ne, lt, le}
use Rattle.law_rounding.specs.Units.{in_units}
use Rattle.index_choice.specs.Indices.{not_above, index_of, order_from, order_of}
use Rattle.index_coefficients.specs.Coefficients.{coefficient_of}
use Rattle.row_durations.specs.Durations.{weighting_of}
use Rattle.row_bands.specs.Bands.{row_of, inside}
use Rattle.check_frame.specs.Frames.{frame_checks}
use Rattle.law_lists.specs.Lines.{lines_through, state_through}
use Rattle.row_bands.specs.declared.Row.{Row}
use Rattle.row_durations.specs.declared.Duration.TheVariants.{SevenPointFive}
use Rattle.law_lists.specs.Places.{tab}
use Rattle.shape_sums.specs.LagSums.{products, lag_sum}
use Rattle.shape_lags.specs.Autocorrelation.{normalized_lag, autocorrelation}
use Rattle.shape_recursion.specs.Recursion.{crossed, reflection, next_row, stepped, unpredicted, predicted}
use Rattle.shape_gain.specs.Gain.{gain_of, is_on, damping_of, gain_record}
use Rattle.shape_reflections.specs.Reflections.{power_from, power, damped, row_below, row_at, reflections}
use Rattle.shape_filter.specs.Analysis.{filter_record, reflections_of}
use Rattle.side_quantized.specs.Quantized.{quantized_of, absent}
use Rattle.lattice_lines.specs.Lattice.{lines_by, states_by}
use Rattle.lattice_encoder.specs.EncoderLattice.{stage_up, stages_to, line_encoded}
use Rattle.lattice_rows.specs.Filters.{bands_run, row_filtered}
use Rattle.side_encoded.specs.SideFilters.{filtered_by}
use Rattle.shape_gain.specs.Gains.{gain_numbers, on_numbers}
use Rattle.shape_frame.specs.FrameSide.{filter_of, second_of, side_of, gains_of}
use Rattle.call_encode.specs.Encoder.{encode_verdict, gains_found, spectrum_encoded, side_in}
use Rattle.lattice_exact.specs.Exact.{exact_stage, exact_stages_to, line_exact, lines_exact, states_exact}
use Rattle.side_near.specs.NearExact.{first_exact, exact_carried, second_exact}
use Rattle.side_data.specs.Side.{orders_in, coefficients_in}
use Rattle.side_data.specs.declared.SideData.{SideData}

abbrev floats : List ℕ → List Float
floats patterns = map (of_bits binary32) patterns

abbrev pub patterns : List Float → List ℕ
patterns xs = map (to_bits binary32) xs

-- ---- the frame

abbrev frame : List Float
frame = floats (
    0x3f542ed1 ∷ 0x3f6cce8e ∷ 0xbf7189d7 ∷ 0xbf5c5f7f ∷ 0xbf2df8f0 ∷ 0xbeb31c66 ∷ 0xbe8c7fac ∷ 0x3f004a8c ∷
    0x3e8a8104 ∷ 0xbecb34fd ∷ 0x3ea74ad2 ∷ 0xbd2c8c2c ∷ 0xbe89dcc0 ∷ 0x3ece5f28 ∷ 0xbe89b4d3 ∷ 0xbd2cd53d ∷
    0x3ea6e8ef ∷ 0xbecae88f ∷ 0x3e4e9628 ∷ 0x3e00c132 ∷ 0xbebd38ee ∷ 0x3ebcd4f6 ∷ 0xbdfe03f7 ∷ 0xbe51f9f7 ∷
    0x3eca9e76 ∷ 0xbea6efaa ∷ 0x3d14590b ∷ 0x3e8c3dc5 ∷ 0xbece4081 ∷ 0x3e88ce20 ∷ 0x3d3f3766 ∷ 0xbea93de2 ∷
    0x3ec92f3e ∷ 0xbe4a4bf1 ∷ 0xbe062aa0 ∷ 0x3ebed645 ∷ 0xbebbb33e ∷ 0x3df13696 ∷ 0x3e5944e0 ∷ 0xbecb0226 ∷
    0x3ea54bc5 ∷ 0xbd0325d4 ∷ 0xbe8ef0ed ∷ 0x3ecf3bf7 ∷ 0xbe8551ef ∷ 0xbd588275 ∷ 0x3eac3b9d ∷ 0xbec8c521 ∷
    0x3e4354fe ∷ 0x3e0fa2ad ∷ 0xbec10f11 ∷ 0x3ebab0ec ∷ 0xbde17d88 ∷ 0xbe5cf71a ∷ 0x3ecbf7fa ∷ 0xbea1f51b ∷
    0x3cdd5db4 ∷ 0x3e911b0c ∷ 0xbecf107c ∷ 0x3e82dbd1 ∷ 0x3d7dbdf6 ∷ 0xbeae0b18 ∷ 0x3ec8f7b3 ∷ 0xbe3bba58 ∷
    0xbe13bd8d ∷ 0x3ec17a23 ∷ 0xbeb88b1f ∷ 0x3dd1bf7e ∷ 0x3e6281b9 ∷ 0xbeccca65 ∷ 0x3ea03cf1 ∷ 0xbc91902e ∷
    0xbe93dd50 ∷ 0x3ecee65d ∷ 0xbe809091 ∷ 0xbd8712d6 ∷ 0x3eae16fd ∷ 0xbec7d1b3 ∷ 0x3e37127c ∷ 0x3e181568 ∷
    0xbec2837f ∷ 0x3eb7c347 ∷ 0xbdcafb00 ∷ 0xbe6833f6 ∷ 0x3ecdaf53 ∷ 0xbe9eeada ∷ 0x3c3d580b ∷ 0x3e960497 ∷
    0xbecf57fc ∷ 0x3e7d8b0e ∷ 0x3d94ad43 ∷ 0xbeb13d5e ∷ 0x3ec6545d ∷ 0xbe30c607 ∷ 0xbe1e8617 ∷ 0x3ec396ec ∷
    0xbeb5dc06 ∷ 0x3dbb9312 ∷ 0x3e6ce458 ∷ 0xbeccac0c ∷ 0x3e9c6dae ∷ 0xbc0e5427 ∷ 0xbe971e60 ∷ 0x3ece0c80 ∷
    0xbe78da25 ∷ 0xbda4af3c ∷ 0x3eb2a775 ∷ 0xbec5d7c2 ∷ 0x3e2dbddc ∷ 0x3e2495d4 ∷ 0xbec53e6d ∷ 0x3eb43ef2 ∷
    0xbdaf440b ∷ 0xbe71fc6d ∷ 0x3ecda05c ∷ 0xbe9b2760 ∷ 0x3a9a334d ∷ 0x3e99e0a2 ∷ 0xbecd33fb ∷ 0x3e7391b8 ∷
    0xbf163f69 ∷ 0xbef6e436 ∷ 0xbeaa6d15 ∷ 0x3d489058 ∷ 0x3dfa0e0a ∷ 0x3f1f2ebc ∷ 0x3ed1d5a4 ∷ 0x3dc56fb2 ∷
    0xbe968c12 ∷ 0xbe90c14a ∷ 0xbea90668 ∷ 0xbef76946 ∷ 0xbe7699c1 ∷ 0x3e5efe30 ∷ 0x3f0caab9 ∷ 0x3ed48800 ∷
    0x3dd07c7a ∷ 0xbe88371b ∷ 0xbf0c73cf ∷ 0xbf1f30d1 ∷ 0xbe3def50 ∷ 0xbd08c8ac ∷ 0xbd74aadc ∷ 0x3ee9212c ∷
    0x3f3558e3 ∷ 0x3e95b6e2 ∷ 0x3ddf42ac ∷ 0xbd956982 ∷ 0xbf2933cb ∷ 0xbf0f374b ∷ 0xbe4bde6c ∷ 0x3ea77726 ∷
    0x3f19eddc ∷ 0x3ef72760 ∷ 0x3e70eae7 ∷ 0x3c64e090 ∷ 0x3bd39560 ∷ 0xbe932134 ∷ 0xbedd35d8 ∷ 0xbe932d0a ∷
    0x3dcb45dc ∷ 0x3e49f455 ∷ 0x3f25ec9a ∷ 0x3f0b652c ∷ 0xbd795d40 ∷ 0xbd3b299c ∷ 0xbee1bfed ∷ 0xbf02965f ∷
    0xbeaca188 ∷ 0x3e3ba037 ∷ 0x3eb033fb ∷ 0x3ea88cbb ∷ 0x3f286ce2 ∷ 0x3ce6e618 ∷ 0xbe96f96a ∷ 0xbeba6cfa ∷
    0xbf2a3b36 ∷ 0xbeff4c52 ∷ 0x3dd5909e ∷ 0xbc4d9ec0 ∷ 0x3ed33585 ∷ 0x3e76a45e ∷ 0x3eea6c4c ∷ 0x3e1330a3 ∷
    0xbe67f40d ∷ 0xbebdeec7 ∷ 0xbe7b603d ∷ 0xbc6d9890 ∷ 0x3ebed710 ∷ 0x3f0a9ce2 ∷ 0x3effd55b ∷ 0x3f05d0e8 ∷
    0x3e763842 ∷ 0xbe81b062 ∷ 0xbf2813f1 ∷ 0xbed174d2 ∷ 0xbe5552bb ∷ 0x3d9b68d0 ∷ 0x3e49ddf8 ∷ 0x3eb0fb2c ∷
    0x3efcfcca ∷ 0x3e2e2051 ∷ 0xbedae098 ∷ 0xbec2013c ∷ 0xbf246951 ∷ 0xbef4b4a6 ∷ 0xbe4c5c8f ∷ 0x3ead2088 ∷
    0x3eacabe6 ∷ 0x3e99b06b ∷ 0x3e5c6fbd ∷ 0xbe9e88d2 ∷ 0xbf0cad21 ∷ 0xbf19560e ∷ 0xbf13d625 ∷ 0xbe976169 ∷
    0x3e8b5924 ∷ 0x3f09f3f8 ∷ 0x3eab7f6c ∷ 0x3ebba6e9 ∷ 0xbd11f2a8 ∷ 0xbe384d55 ∷ 0xbf1bfd15 ∷ 0xbe1a868a ∷
    0xbea20510 ∷ 0x3ed86162 ∷ 0x3e996654 ∷ 0x3f250b5b ∷ 0x3ed970d5 ∷ 0xbb9b6560 ∷ 0xbec7a8ba ∷ 0xbf2c1ff7 ∷
    0xbee61764 ∷ 0xbe0a6d22 ∷ 0x3ecadf76 ∷ 0x3e30d6e3 ∷ 0x3f3782b8 ∷ 0x3e83cbc3 ∷ 0xbac8e100 ∷ 0xbeb26c24 ∷
    []
    )

abbrev row : Row
row = row_of SevenPointFive 3

abbrev side : SideData
side = side_in (encode_verdict 1 3 2953 false frame)

abbrev after : List Float
after = spectrum_encoded 1 3 2953 false frame

-- the last three lines of the first band, and the first three and the last three of the second
abbrev shown : {A : Type 0} → List A → List A → List A
shown first second = drop 108 first ++ (take 3 second ++ drop 117 second)

abbrev coefficient_patterns : List ℕ
coefficient_patterns =
    0x3f2c7751 ∷ 0x3f65296c ∷ 0xbe3c28d5 ∷ 0x00000000 ∷ 0x00000000 ∷ 0x3e3c28d5 ∷ 0x00000000 ∷ 0x00000000 ∷
    0xbf2c7751 ∷ 0x3eb8f4ab ∷ 0x3f06c442 ∷ 0x3eb8f4ab ∷ 0x3e3c28d5 ∷ 0x00000000 ∷ 0x00000000 ∷ 0x3e3c28d5 ∷
    []

abbrev filtered_patterns : List ℕ
filtered_patterns =
    0x3d067e90 ∷ 0xbc772c60 ∷ 0xbbfee2b2 ∷
    0xbf542bc9 ∷ 0xbeab8ff5 ∷ 0xbcf6ba0b ∷
    0xbdb9adea ∷ 0xbd92b7fc ∷ 0xbdff3bb6 ∷
    []

-- in units of 2^-357
abbrev exact_lines : List ℤ
exact_lines =
    pos 9639467289515237681355816173557402895703479115415538803468342744915932680155623127043363362398779268399104 ∷
    negsuc 4428842951941705868962967740818782836241781110840188169643075409512690618069682135742570225480701298343935 ∷
    negsuc 2283508480166994620371192162298394765014455206734363601671778875990199896417622485422993856291713316814847 ∷
    negsuc 243306986991950908496629112102306673166101499853307921855670479483034261401362542272606385043742719408603135 ∷
    negsuc 98369488704792076835450686123272131488639288769742453231125920428607461078529953783707245664271760827088895 ∷
    negsuc 8841671148524394224900464517597320530354518672215665906411352204137259705229193646695438665519114458497023 ∷
    negsuc 26615956762523540685572134382362919224097703772668750694836359804056316176733768377287440706545486386954239 ∷
    negsuc 21031190790171049513560924003756025261695706427138298544768268375326918355050261835233677213859012530929663 ∷
    negsuc 36586070607785241451533892104290214645207553962421039942049332159521465364042570752260922310591303162789887 ∷
    []

-- how far the two are apart, in the same units: no line shown is exact
abbrev distances : List Float → List ℤ → List ℕ
distances [] YS = []
distances (y ∷ ys) [] = []
distances (y ∷ ys) (Y ∷ YS) = nat_abs (in_units 357 y -ℤ Y) ∷ distances ys YS

abbrev apart : List ℕ
apart =
    8373315328433310669138400608364999141878492891556347091996159351897948063103293939757782354484002816 ∷
    1445369172871968852841253029920334608107712652327020972351747135747358820993858978910064632901140480 ∷
    5609670783039681358806899678623951943233128068868945080873799787345473642071479499762104449256914944 ∷
    1449989413979400233819424633901408338407736933406113109193797556769361053820602880459540614648692736 ∷
    4132625193639707506449195948031123305929348395040334398151815595865770750164880272005637434683424768 ∷
    7204254753275084150589612808886524196855021202420132417441424096807609137003597536713518450395316224 ∷
    1761630450424324894763723191767290832723991727402474059310293563505469691830875906067457762266185728 ∷
    3589875632891525761520772758039381083379217337015092883579640661675519452644389069553908670193991680 ∷
    2100864443614960476016369484066071510899630925887178305702302799484836582463282606997974700632571904 ∷
    []

pub record Worked : Type 0 where
  pub orders : orders_in side ≡ 6 ∷ 8 ∷ []
  pub coefficients : patterns (coefficients_in side) ≡ coefficient_patterns
  pub gains : patterns (gain_numbers (gains_found 1 3 2953 false frame)) ≡ 0x413c89df ∷ 0x3f800000 ∷ 0x4048122e ∷ 0x3f800000 ∷ []
  pub on : on_numbers (gains_found 1 3 2953 false frame) ≡ 1 ∷ 1 ∷ []
  pub filtered : patterns (shown (inside row.first after) (inside row.second after)) ≡ filtered_patterns
  pub distant : distances (shown (inside row.first after) (inside row.second after)) (shown (first_exact row side frame) (second_exact row side frame)) ≡ apart
  pub exactly : shown (first_exact row side frame) (second_exact row side frame) ≡ exact_lines

pub worked : Worked
unfolding of_bits to_bits add sub mul div neg eq lt le not_above index_of coefficient_of order_from order_of weighting_of row_of frame_checks lines_through state_through tab products lag_sum normalized_lag autocorrelation crossed reflection next_row stepped unpredicted predicted gain_of is_on damping_of gain_record power_from power damped row_below row_at reflections filter_record reflections_of quantized_of absent stage_up stages_to line_encoded lines_by states_by filter_of second_of side_of gains_of bands_run row_filtered filtered_by encode_verdict spectrum_encoded exact_stage exact_stages_to line_exact lines_exact states_exact first_exact exact_carried second_exact ne
worked = record { orders = refl; coefficients = refl; gains = refl; on = refl; filtered = refl; distant = refl; exactly = refl }
