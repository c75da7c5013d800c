pub mod DecisionText
