mod PrintSteps
